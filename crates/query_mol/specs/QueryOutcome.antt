-- The outcome of a query file: the query of its first section, or where that is refused. (CTfile Formats, "Molfiles": a
-- file of one section. That what follows the first section is not read is this project's own.)
use Rattle.std.specs.Prelude.{ℕ, List, Result, Ok, Err}
use Rattle.htss_defs.specs.QueryGraph.{QueryGraph}
use Rattle.mol_section.specs.Lines.{lines_of}
use Rattle.ctfile.specs.Cut.{IsFirstSection}
use Rattle.query_mol.specs.declared.query.QueryRefusal.{QueryRefusal}
use Rattle.query_mol.specs.QueryRecord.{IsAcceptedQuery, IsRefusedQuery}

-- the section has this query, or is refused so
abbrev pub IsQueryOutcome : List (List ℕ) → Result QueryGraph QueryRefusal → Type 0
IsQueryOutcome section (Ok query) = IsAcceptedQuery section query
IsQueryOutcome section (Err refusal) = IsRefusedQuery section refusal.line refusal.code

-- the first section of the bytes has this query, or is refused so
pub record IsFirstQueryOutcome (bytes : List ℕ) (outcome : Result QueryGraph QueryRefusal) : Type 0 where
  pub section : List (List ℕ)
  pub first : IsFirstSection (lines_of bytes) section
  pub is : IsQueryOutcome section outcome
