-- What the files of jobs were read as.
use Rattle.std.specs.Prelude.{ℕ, List, map, Option, Some, IsSome}
use Rattle.mol_section.specs.SectionRecord.{Outcome, accepted, refused}
use Rattle.ctfile.specs.RecordList.{IsRecordList}
use Rattle.query_mol.specs.QueryOutcome.{IsFirstQueryOutcome}
use Rattle.script_text.specs.declared.script.Order.{Order}
use Rattle.script_text.specs.declared.script.Order.TheVariants.{Load, Withdraw, Search}
use Rattle.script_text.specs.FilesByLine.{bytes_at}
use Rattle.told_history.specs.declared.jobs.LaidJob.{LaidJob}
use Rattle.told_history.specs.declared.reads.JobRead.{JobRead}
use Rattle.told_history.specs.declared.reads.JobRead.TheVariants.{Records, Asked}
use Rattle.told_history.specs.declared.records.RecordRead.{RecordRead}
use Rattle.told_history.specs.declared.records.RecordRead.TheVariants.{Accepted, Refused}

abbrev pub outcome_of : RecordRead → Outcome
outcome_of (Accepted name mol) = accepted name mol
outcome_of (Refused line code) = refused line code

-- the file of the order, if it has one, stands among the files under this line
abbrev pub HasItsFile : List (ℕ × List ℕ) → ℕ → Order → Type 0
HasItsFile files line (Load file) = IsSome (bytes_at files line)
HasItsFile files line (Withdraw number) = Unit {0}
HasItsFile files line (Search file budget) = IsSome (bytes_at files line)

abbrev pub IsThere : List (ℕ × List ℕ) → LaidJob → Type 0
IsThere files laid = HasItsFile files laid.job.now.line laid.job.now.order

-- what the bytes are read as, by the order
abbrev pub IsReadFor : Option (List ℕ) → Order → JobRead → Type 0
IsReadFor (Some bytes) (Load file) (Records records) = IsRecordList bytes (map outcome_of records.items)
IsReadFor (Some bytes) (Search file budget) (Asked outcome) = IsFirstQueryOutcome bytes outcome
IsReadFor bytes (Withdraw number) read = Unit {0}
IsReadFor _ _ _ = ⊥

abbrev pub IsReadOf : List (ℕ × List ℕ) → LaidJob → JobRead → Type 0
IsReadOf files laid read = IsReadFor (bytes_at files laid.job.now.line) laid.job.now.order read
