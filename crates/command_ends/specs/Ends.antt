-- What a call of the program promises: an outcome with its cause, and the status and the bytes that it leaves (this
-- project's own).
use Rattle.std.specs.Prelude.{◌≡◌, ◌⊎◌, ℕ, ◌≤◌, List, [], Option, None, Some, Ok}
use Rattle.std.specs.Io.KnownBytes.{append_known}
use Rattle.htss_defs.specs.QueryGraph.{QueryGraph}
use Rattle.outside.specs.Files.{File, IsLarge}
use Rattle.outside.specs.Causes.{Rose, IsAbsent}
use Rattle.outside.specs.Written.{GrewByFront}
use Rattle.command_words.specs.Tasks.{Task, audit_of, check_of, codes_of, find_in, make_of, run_of, task_of}
use Rattle.command_ends.specs.Outcomes.{CommandEnd, differs, done, stopped, status_of, text_of}
use Rattle.command_ends.specs.Outcomes.{Why, not_a_command, out_of_memory, script_faulty, read_failed, file_absent}
use Rattle.command_ends.specs.Outcomes.{file_too_large}
use Rattle.command_ends.specs.FindText.{IsCheckText, IsCodesText, IsFindText, QueryWasRead}
use Rattle.command_ends.specs.MakeText.{IsMadeFront, IsMadeText}
use Rattle.command_ends.specs.AuditText.{AuditReads, DiffersAt, IsAuditText}
use Rattle.command_ends.specs.RunText.{IsRunFrontAtAnyTime, IsRunText, RunReads, ScriptIsFaulty}

-- what a shelf tells and has counted at one moment
pub record ShelfSeen : Type 0 where
  pub told : Option (List File)
  pub absent : ℕ
  pub faults : ℕ

-- what a sink tells and has counted at one moment
pub record SinkSeen : Type 0 where
  pub written : Option (List ℕ)
  pub faults : ℕ

-- by the meanings of the shelf's type, and of the sink's
abbrev pub seen : {S : Type 0} → (S → Option (List File)) → (S → ℕ) → (S → ℕ) → S → ShelfSeen
seen told absent faults shelf = record { told = told shelf; absent = absent shelf; faults = faults shelf }

abbrev pub seen_out : {S : Type 0} → (S → Option (List ℕ)) → (S → ℕ) → S → SinkSeen
seen_out written faults out = record { written = written out; faults = faults out }

-- the shelf is the same, and no count has fallen
pub record ShelfGoesOn (before now : ShelfSeen) : Type 0 where
  pub told : now.told ≡ before.told
  pub absent : before.absent ≤ now.absent
  pub faults : before.faults ≤ now.faults

-- the file that `find` comes to read: the query first, and the SDfile where the query was read and is not refused
abbrev pub FindReads : Option (List File) → List ℕ → List ℕ → List ℕ → Type 0
FindReads told sdf query name = (name ≡ query)
    ⊎ ((name ≡ sdf) × (asked : QueryGraph) × QueryWasRead told query (Ok asked))

-- the task comes to read this file after this much of its text: all but `run` before there is any
abbrev pub ComesToRead : Option (List File) → Task → List ℕ → List ℕ → Type 0
ComesToRead told (find_in sdf query budget) front name = (front ≡ []) × FindReads told sdf query name
ComesToRead told (check_of sdf) front name = (front ≡ []) × (name ≡ sdf)
ComesToRead told (codes_of mol) front name = (front ≡ []) × (name ≡ mol)
ComesToRead told (make_of count seed summary) front name = ⊥
ComesToRead told (run_of script shape budget) front name = RunReads told script shape budget front name
ComesToRead told (audit_of script report) front name = (front ≡ []) × AuditReads told script report name

-- the task's script is at fault at this line
abbrev pub HasFaultyScript : Option (List File) → Task → ℕ → Type 0
HasFaultyScript told (run_of script shape budget) line = ScriptIsFaulty told script line
HasFaultyScript told (audit_of script report) line = ScriptIsFaulty told script line
HasFaultyScript told _ line = ⊥

-- what there may be of the task's text where memory runs out
abbrev pub IsFrontAtAnyTime : Option (List File) → Task → List ℕ → Type 0
IsFrontAtAnyTime told (make_of count seed summary) front = IsMadeFront count seed summary front
IsFrontAtAnyTime told (run_of script shape budget) front = IsRunFrontAtAnyTime told script shape budget front
IsFrontAtAnyTime told _ front = front ≡ []

-- the text is one that the task may have
abbrev pub IsTextOf : Option (List File) → Task → List ℕ → Type 0
IsTextOf told (find_in sdf query budget) text = IsFindText told sdf query budget text
IsTextOf told (check_of sdf) text = IsCheckText told sdf text
IsTextOf told (codes_of mol) text = IsCodesText told mol text
IsTextOf told (make_of count seed summary) text = IsMadeText count seed summary text
IsTextOf told (run_of script shape budget) text = IsRunText told script shape budget text
IsTextOf told (audit_of script report) text = IsAuditText told script report text

-- the task is an audit, whose report differs at this line
abbrev pub MayDiffer : Option (List File) → Task → ℕ → Type 0
MayDiffer told (audit_of script report) line = DiffersAt told script report line
MayDiffer told _ line = ⊥

-- between these moments the task may stop so, after this much of its text: each stop has its cause, but for want of
-- memory
abbrev pub MayStop : Task → ShelfSeen → ShelfSeen → List ℕ → Why → Type 0
MayStop task before now front not_a_command = ⊥
MayStop task before now front out_of_memory = IsFrontAtAnyTime before.told task front
MayStop task before now front (script_faulty line) = (front ≡ []) × HasFaultyScript before.told task line
MayStop task before now front (read_failed name) = ComesToRead before.told task front name
    × Rose before.faults now.faults
MayStop task before now front (file_absent name) = ComesToRead before.told task front name
    × IsAbsent before.told name before.absent now.absent
MayStop task before now front (file_too_large name) = ComesToRead before.told task front name × IsLarge before.told name

-- words that are no command line stop at once, by want of memory or with their own cause
abbrev pub MayRefuse : List ℕ → Why → Type 0
MayRefuse front not_a_command = front ≡ []
MayRefuse front out_of_memory = front ≡ []
MayRefuse front _ = ⊥

-- between these moments the task, if the words have one, may come out so
abbrev pub MayComeOut : Option Task → ShelfSeen → ShelfSeen → CommandEnd → Type 0
MayComeOut None before now (done text) = ⊥
MayComeOut None before now (differs line) = ⊥
MayComeOut None before now (stopped front why) = MayRefuse front why
MayComeOut (Some task) before now (done text) = IsTextOf before.told task text
MayComeOut (Some task) before now (differs line) = MayDiffer before.told task line
MayComeOut (Some task) before now (stopped front why) = MayStop task before now front why

-- the text was written and the status answered; or a write failed, and a front of the text was written
abbrev pub IsWritten : SinkSeen → SinkSeen → CommandEnd → ℕ → Type 0
IsWritten before now outcome status =
    ((status ≡ status_of outcome) × (now.written ≡ append_known before.written (text_of outcome)))
    ⊎ ((status ≡ 5) × Rose before.faults now.faults × GrewByFront before.written now.written (text_of outcome))

-- the task, or words that have none, end with this status
pub record EndsAs (task : Option Task) (shelf shelf_now : ShelfSeen) (out out_now : SinkSeen)
    (status : ℕ) : Type 0 where
  pub outcome : CommandEnd
  pub may : MayComeOut task shelf shelf_now outcome
  pub written : IsWritten out out_now outcome status
  pub shelf_goes_on : ShelfGoesOn shelf shelf_now
  pub faults : out.faults ≤ out_now.faults

-- a call with these words ends with this status
abbrev pub Ends : List (List ℕ) → ShelfSeen → ShelfSeen → SinkSeen → SinkSeen → ℕ → Type 0
Ends words shelf shelf_now out out_now status = EndsAs (task_of words) shelf shelf_now out out_now status

-- the tasks of the call without a runtime: all but those that may wait
abbrev pub without_waiting : Option Task → Option Task
without_waiting (Some (run_of script shape budget)) = None
without_waiting task = task
