-- What a search answers under a budget (this project's own).
use Rattle.std.specs.Prelude.{ℕ, ◌<◌, ◌≤◌, List, [], map, length, sum_by, All, Contains}
use Rattle.std.specs.List.Sorted.{IsStrictlyIncreasing}
use Rattle.htss_defs.specs.declared.history.Event.{Event}
use Rattle.htss_defs.specs.declared.history.Hit.{Hit}
use Rattle.htss_defs.specs.Molecule.{Molecule}
use Rattle.htss_defs.specs.QueryGraph.{QueryGraph}
use Rattle.htss_defs.specs.History.{IsLive}
use Rattle.htss_defs.specs.Hits.{AreHits}
use Rattle.htss_defs.specs.Cost.{cost}
use Rattle.htss_defs.specs.Screened.{IsScreened}

-- a record by its number
pub record Numbered : Type 0 where
  pub number : ℕ
  pub mol : Molecule

-- a live record that has an atom which may stand for the pivot of the query
pub record IsScreenedRecord (q : QueryGraph) (history : List Event) (one : Numbered) : Type 0 where
  pub name : List ℕ
  pub live : IsLive history one.number name one.mol
  pub screened : IsScreened q one.mol

-- exactly the screened records, by rising number
pub record AreScreened (q : QueryGraph) (history : List Event) (records : List Numbered) : Type 0 where
  pub rising : IsStrictlyIncreasing (map (λ one. one.number) records)
  pub each : All (IsScreenedRecord q history) records
  pub all : (number : ℕ) (name : List ℕ) (mol : Molecule) → IsLive history number name mol → IsScreened q mol
      → Contains (map (λ one. one.number) records) number

-- the work of a search of these records, and the atoms that it cannot do with less than
abbrev pub work : QueryGraph → List Numbered → ℕ
work q records = sum_by (λ one. cost q one.mol []) records

abbrev pub atoms_of : List Numbered → ℕ
atoms_of records = sum_by (λ one. length one.mol.atoms) records

pub data Reply : Type 0 where
  found : (hits : List Hit) → Reply
  over_budget : Reply

-- the hits, where the budget allows as many steps as the screened records have atoms; or that the work exceeds the
-- budget
abbrev pub IsReply : QueryGraph → ℕ → List Event → Reply → Type 0
IsReply q budget history (found hits) =
    AreHits q history hits × (records : List Numbered) × AreScreened q history records × (atoms_of records ≤ budget)
IsReply q budget history over_budget = (records : List Numbered) × AreScreened q history records
    × (budget < work q records)
