-- What a search of many records keeps of those that it has taken.
use Rattle.std.specs.Prelude.{◌≡◌, ℕ, ◌+◌, ◌<◌, ◌≤◌, List, Option, Some, None, length}
use Rattle.std.specs.List.{flat_map}
use Rattle.htss_defs.specs.declared.history.Hit.{Hit}
use Rattle.htss_defs.specs.declared.record.NamedMol.{NamedMol}
use Rattle.htss_defs.specs.QueryGraph.{QueryGraph}
use Rattle.htss_defs.specs.History.{publications}
use Rattle.htss_defs.specs.Hits.{AreHits}
use Rattle.htss_defs.specs.Reply.{Numbered, AreScreened, atoms_of, work}
use Rattle.hit_report.specs.HitLines.{hit_line}

-- what is asked of the records
pub record Asked : Type 0 where
  pub query : QueryGraph
  pub budget : ℕ

-- the hits among these records, their lines and their number; and what is left of the budget for searching the screened
-- ones
pub record HitsHold (query : QueryGraph) (budget left : ℕ) (lines : List ℕ) (count : ℕ)
    (records : List NamedMol) : Type 0 where
  pub hits : List Hit
  pub are : AreHits query (publications records) hits
  pub lines_are : lines ≡ flat_map hit_line hits
  pub count_is : count ≡ length hits
  pub screened : List Numbered
  pub are_screened : AreScreened query (publications records) screened
  pub within : left + atoms_of screened ≤ budget
  pub paid : budget ≤ left + work query screened

-- the work of the screened ones among these records exceeds the budget
pub record IsOver (query : QueryGraph) (budget : ℕ) (records : List NamedMol) : Type 0 where
  pub screened : List Numbered
  pub are_screened : AreScreened query (publications records) screened
  pub over : budget < work query screened

-- where something of the budget is left the one, where it is spent the other
abbrev pub SearchHolds : QueryGraph → ℕ → Option ℕ → List ℕ → ℕ → List NamedMol → Type 0
SearchHolds query budget (Some left) lines count records = HitsHold query budget left lines count records
SearchHolds query budget None lines count records = IsOver query budget records
