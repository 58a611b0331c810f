-- What a run keeps of the groups that are done.
use Rattle.std.specs.Prelude.{◌≡◌, ℕ, ◌+◌, ◌<◌, ◌≤◌, List, [], ◌∷◌, ◌++◌, length, map, All, Contains, Option, Some}
use Rattle.std.specs.List.{flat_map}
use Rattle.htss_defs.specs.declared.history.Event.{Event}
use Rattle.htss_defs.specs.declared.shape.Shape.{Shape}
use Rattle.script_text.specs.declared.script.Job.{Job}
use Rattle.script_text.specs.declared.script.Group.{Group}
use Rattle.script_text.specs.FilesByLine.{bytes_at}
use Rattle.report_text.specs.declared.report.Block.{Block}
use Rattle.report_text.specs.ReportText.{block_text, header_text}
use Rattle.report_text.specs.Typed.{IsTypedBlock}
use Rattle.report_text.specs.Values.{IsU64}
use Rattle.report_rules.specs.Reports.{Done, done_block}
use Rattle.board_core.specs.declared.account.Account.{Account}
use Rattle.board_core.specs.Words.{Parts}
use Rattle.board_core.specs.Histories.{history_of}
use Rattle.board_jobs.specs.Groups.{AreGroupsDone, AreNew, GroupIsDone}
use Rattle.board_jobs.specs.Ends.{IsEnd}
use Rattle.outside.specs.Files.{File, file_limit}
pub use Rattle.script_files.specs.JobFiles.{RisesFrom, lines_of_jobs, AreRising, IsAfter, AreOnlyFor, AreWithin}
pub use Rattle.script_files.specs.JobFiles.{HaveFiles, StopsAmong}
use Rattle.command_words.specs.Tasks.{run_of}
use Rattle.command_ends.specs.Outcomes.{Why}
use Rattle.command_ends.specs.Ends.{MayStop, ShelfSeen}
use Rattle.command_ends.specs.Stops.{IsStopOfFile}
use Rattle.command_ends.specs.RunText.{AreFilesOf, CanBeRead, ScriptWasRead, files_named, jobs_of}

-- the first line and the blocks, where some group has begun
abbrev pub begun_text : List Group → Shape → ℕ → List Block → List ℕ
begun_text [] shape budget blocks = []
begun_text (group ∷ groups) shape budget blocks = header_text shape budget ++ flat_map block_text blocks

-- the text, or the first line where there is no text yet
abbrev pub with_header : List ℕ → Shape → ℕ → List ℕ
with_header [] shape budget = header_text shape budget
with_header (byte ∷ bytes) shape budget = byte ∷ bytes

-- these groups are done, from the accounts of a new board to these, and their blocks, whose values are of their types,
-- are the text
pub record HasDone (told : Option (List File)) (groups : List Group) (shape : Shape) (budget : ℕ)
    (accounts : List Account) (text : List ℕ) : Type 0 where
  pub files : List (ℕ × List ℕ)
  pub have : HaveFiles told files (jobs_of groups)
  pub new : List Account
  pub are_new : AreNew shape new
  pub front : ℕ
  pub done : List Done
  pub are_done : AreGroupsDone shape files budget 1 groups new accounts front done
  pub fits : IsU64 budget
  pub typed : All IsTypedBlock (map done_block done)
  pub text_is : text ≡ begun_text groups shape budget (map done_block done)

-- with these accounts a board has this end
pub record HasEnd (shape : Shape) (accounts : List Account) (history : List Event) : Type 0 where
  pub words : Parts
  pub end : IsEnd shape words accounts
  pub shows : history_of shape words ≡ history

-- a run of this script may stop so, after this text
abbrev pub RunMayStop : Option (List File) → List Group → Shape → ℕ → ShelfSeen → ShelfSeen → List ℕ → Why → Type 0
RunMayStop told groups shape budget before now text why =
    (script : List ℕ) → ScriptWasRead told script groups → MayStop (run_of script shape budget) before now text why

-- so it may stop, whatever the end of a board with these accounts is
abbrev pub StopsAtEnd : Shape → List Account → Type 0 → Type 0
StopsAtEnd shape accounts Stop = (history : List Event) → HasEnd shape accounts history → Stop

-- a group is done, whatever its number, and these are its blocks
abbrev pub IsGroupDone : Shape → List (ℕ × List ℕ) → ℕ → Group → List Account → List Account → List Block → Type 0
IsGroupDone shape files budget group before after blocks =
    (number : ℕ) → (front : ℕ) × (done : List Done)
    × GroupIsDone shape files budget number group before after front done × (blocks ≡ map done_block done)
