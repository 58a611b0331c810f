-- Why the reading of a file stopped, and how a part of a command ends.
use Rattle.std.specs.Prelude.{List, ℕ, ◌≡◌, Some}
use Rattle.outside.specs.Files.{IsLarge}
use Rattle.outside.specs.Causes.{Rose, IsAbsent}
use Rattle.command_ends.specs.Outcomes.{Why, not_a_command, out_of_memory, script_faulty, read_failed, file_absent}
use Rattle.command_ends.specs.Outcomes.{file_too_large}
use Rattle.command_words.specs.Tasks.{Task}
use Rattle.command_ends.specs.Outcomes.{CommandEnd}
use Rattle.command_ends.specs.Ends.{IsWritten, MayComeOut, ShelfSeen, SinkSeen}

-- between these moments a read of the file with this name may stop so
abbrev pub IsStopOfFile : ShelfSeen → ShelfSeen → List ℕ → Why → Type 0
IsStopOfFile before now name not_a_command = ⊥
IsStopOfFile before now name out_of_memory = Unit {0}
IsStopOfFile before now name (script_faulty line) = ⊥
IsStopOfFile before now name (read_failed named) = (named ≡ name) × Rose before.faults now.faults
IsStopOfFile before now name (file_absent named) = (named ≡ name) × IsAbsent before.told name before.absent now.absent
IsStopOfFile before now name (file_too_large named) = (named ≡ name) × IsLarge before.told name

-- a task that reads no file ends with this status
pub record EndsUnread (task : Task) (out out_now : SinkSeen) (status : ℕ) : Type 0 where
  pub outcome : CommandEnd
  pub may : (shelf shelf_now : ShelfSeen) → MayComeOut (Some task) shelf shelf_now outcome
  pub written : IsWritten out out_now outcome status
