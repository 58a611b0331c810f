-- A cause between two moments is one from an earlier moment on; and what a stop of reading is for a task.
use Rattle.std.proofs.Common.{ℕ, ◌≤◌, List, subst, sym, arith}
use Rattle.std.specs.Prelude.{Option, Some, None}
use Rattle.outside.specs.Files.{File, IsLarge}
use Rattle.outside.specs.Causes.{Rose, IsAbsent}
use Rattle.command_words.specs.Tasks.{Task}
use Rattle.command_ends.specs.Outcomes.{Why, not_a_command, out_of_memory, script_faulty, read_failed, file_absent, file_too_large}
use Rattle.command_ends.specs.Ends.{ShelfSeen, ShelfGoesOn, ComesToRead, HasFaultyScript, IsFrontAtAnyTime, MayStop}
use Rattle.command_ends.specs.Stops.{IsStopOfFile}

Rose-earlier : (before middle now : ℕ) → before ≤ middle → Rose middle now → Rose before now
Rose-earlier before middle now le rose = omega arith

IsAbsent-earlier : (told : Option (List File)) (name : List ℕ) (before middle now : ℕ) → before ≤ middle → IsAbsent told name middle now → IsAbsent told name before now
IsAbsent-earlier None name before middle now le absent = Rose-earlier before middle now le absent
IsAbsent-earlier (Some files) name before middle now le absent = absent

-- a read that began later stopped for a cause that is one from an earlier moment on
pub IsStopOfFile-earlier : (before middle now : ShelfSeen) (name : List ℕ) (why : Why) → ShelfGoesOn before middle → IsStopOfFile middle now name why → IsStopOfFile before now name why
IsStopOfFile-earlier before middle now name not_a_command on stop = stop
IsStopOfFile-earlier before middle now name out_of_memory on stop = stop
IsStopOfFile-earlier before middle now name (script_faulty line) on stop = stop
IsStopOfFile-earlier before middle now name (read_failed named) on stop = (stop.0, Rose-earlier before.faults middle.faults now.faults on.faults stop.1)
IsStopOfFile-earlier before middle now name (file_absent named) on stop = (
  stop.0,
  IsAbsent-earlier before.told name before.absent middle.absent now.absent on.absent (subst (λ (t : Option (List File)). IsAbsent t name middle.absent now.absent) on.told stop.1),
)
IsStopOfFile-earlier before middle now name (file_too_large named) on stop = (stop.0, subst (λ (t : Option (List File)). IsLarge t name) on.told stop.1)

-- a stop of the file that the task comes to read is one of the task
pub MayStop-of-file : (task : Task) (before now : ShelfSeen) (front name : List ℕ) (why : Why) → ComesToRead before.told task front name → IsFrontAtAnyTime before.told task front → IsStopOfFile before now name why → MayStop task before now front why
MayStop-of-file task before now front name not_a_command reads at_any stop = stop
MayStop-of-file task before now front name out_of_memory reads at_any stop = at_any
MayStop-of-file task before now front name (script_faulty line) reads at_any stop = absurd stop
MayStop-of-file task before now front name (read_failed named) reads at_any stop = (subst (λ n. ComesToRead before.told task front n) (sym stop.0) reads, stop.1)
MayStop-of-file task before now front name (file_absent named) reads at_any stop =
    (subst (λ n. ComesToRead before.told task front n) (sym stop.0) reads, subst (λ n. IsAbsent before.told n before.absent now.absent) (sym stop.0) stop.1)
MayStop-of-file task before now front name (file_too_large named) reads at_any stop =
    (subst (λ n. ComesToRead before.told task front n) (sym stop.0) reads, subst (λ n. IsLarge before.told n) (sym stop.0) stop.1)

-- a stop that has its cause from a later moment on has it from an earlier one on
pub MayStop-earlier : (task : Task) (before middle now : ShelfSeen) (front : List ℕ) (why : Why) → ShelfGoesOn before middle → MayStop task middle now front why → MayStop task before now front why
MayStop-earlier task before middle now front not_a_command on may = may
MayStop-earlier task before middle now front out_of_memory on may = subst (λ (t : Option (List File)). IsFrontAtAnyTime t task front) on.told may
MayStop-earlier task before middle now front (script_faulty line) on may = (may.0, subst (λ (t : Option (List File)). HasFaultyScript t task line) on.told may.1)
MayStop-earlier task before middle now front (read_failed name) on may =
    (subst (λ (t : Option (List File)). ComesToRead t task front name) on.told may.0, Rose-earlier before.faults middle.faults now.faults on.faults may.1)
MayStop-earlier task before middle now front (file_absent name) on may = (
  subst (λ (t : Option (List File)). ComesToRead t task front name) on.told may.0,
  IsAbsent-earlier before.told name before.absent middle.absent now.absent on.absent (subst (λ (t : Option (List File)). IsAbsent t name middle.absent now.absent) on.told may.1),
)
MayStop-earlier task before middle now front (file_too_large name) on may =
    (subst (λ (t : Option (List File)). ComesToRead t task front name) on.told may.0, subst (λ (t : Option (List File)). IsLarge t name) on.told may.1)
