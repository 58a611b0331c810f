-- What the commands keep of the records that they have taken.
use Rattle.std.specs.Prelude.{◌≡◌, ℕ, List, Option, length, sum_by}
use Rattle.htss_defs.specs.declared.history.Hit.{Hit}
use Rattle.htss_defs.specs.History.{publications}
use Rattle.htss_defs.specs.Hits.{AreHits}
use Rattle.htss_defs.specs.QueryGraph.{QueryGraph}
use Rattle.mol_section.specs.SectionRecord.{Outcome}
use Rattle.command_ends.specs.RecordTexts.{accepted_records, check_lines, refused_count, refused_lines}
use Rattle.tool_commands.specs.Searches.{SearchHolds}

-- of these outcomes: the lines of the refused ones, what a search keeps of the others, and how many those are
pub record FindHolds (query : QueryGraph) (budget : ℕ) (refused : List ℕ) (left : Option ℕ) (lines : List ℕ)
    (count number : ℕ) (outcomes : List Outcome) : Type 0 where
  pub refused_is : refused ≡ refused_lines 1 outcomes
  pub search : SearchHolds query budget left lines count (accepted_records outcomes)
  pub number_is : number ≡ length (accepted_records outcomes)

-- of these outcomes: a line for each, and how many are accepted and refused
pub record CheckHolds (text : List ℕ) (accepted refused : ℕ) (outcomes : List Outcome) : Type 0 where
  pub text_is : text ≡ check_lines 1 outcomes
  pub accepted_is : accepted ≡ length (accepted_records outcomes)
  pub refused_is : refused ≡ refused_count outcomes

-- of these outcomes: how many are accepted, the atoms and the bonds of those, and into how many of them the query
-- embeds
pub record SummaryHolds (query : QueryGraph) (records atoms bonds hits : ℕ) (outcomes : List Outcome) : Type 0 where
  pub records_is : records ≡ length (accepted_records outcomes)
  pub atoms_is : atoms ≡ sum_by (λ one. length one.mol.atoms) (accepted_records outcomes)
  pub bonds_is : bonds ≡ sum_by (λ one. length one.mol.bonds) (accepted_records outcomes)
  pub found : List Hit
  pub are : AreHits query (publications (accepted_records outcomes)) found
  pub hits_is : hits ≡ length found
