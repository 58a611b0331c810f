-- When a command comes to its end: nothing stands in its way but want of memory (this project's own).
use Rattle.std.specs.Prelude.{◌≡◌, ◌⊎◌, ℕ, List, Option, None, Some}
use Rattle.outside.specs.Files.{File}
use Rattle.outside.specs.Causes.{Rose}
use Rattle.command_words.specs.Tasks.{Task, audit_of}
use Rattle.command_ends.specs.RunText.{CanBeRead}
use Rattle.command_ends.specs.Ends.{ComesToRead, HasFaultyScript, ShelfSeen, SinkSeen}

-- the shelf tells its files; those that the task comes to read are there, each with no more bytes than a file may have;
-- its script, if it has one, is in the grammar; and no count of faults rises
pub record IsUnhindered (task : Task) (shelf shelf_now : ShelfSeen) (out out_now : SinkSeen) : Type 0 where
  pub files : List File
  pub told : shelf.told ≡ Some files
  pub there : (front name : List ℕ) → ComesToRead shelf.told task front name → CanBeRead shelf.told name
  pub script : (line : ℕ) → HasFaultyScript shelf.told task line → ⊥
  pub reads : Rose shelf.faults shelf_now.faults → ⊥
  pub writes : Rose out.faults out_now.faults → ⊥

-- the status of a task that has come to its end: an audit may find a line at fault
abbrev pub IsEndOf : Task → ℕ → Type 0
IsEndOf (audit_of script report) status = (status ≡ 0) ⊎ (status ≡ 1)
IsEndOf _ status = status ≡ 0

-- a task that nothing hinders comes to its end, or stops for want of memory; and words that are no command line are
-- told so
abbrev pub Completes : Option Task → ShelfSeen → ShelfSeen → SinkSeen → SinkSeen → ℕ → Type 0
Completes None shelf shelf_now out out_now status = (Rose out.faults out_now.faults → ⊥) → (status ≡ 2) ⊎ (status ≡ 6)
Completes (Some task) shelf shelf_now out out_now status = IsUnhindered task shelf shelf_now out out_now
    → IsEndOf task status ⊎ (status ≡ 6)
