use Rattle.std.proofs.Common.{ℕ, List, take}
use Rattle.script_run.specs.Working.{AreCallers}
use Rattle.script_run.specs.Workers.{accounts_of, callers_of}
use Rattle.command_ends.specs.RunText.{ScriptWasRead}
use Rattle.command_ends.specs.Ends.{ShelfGoesOn, seen}
use Rattle.run_command.specs.Runs.{HasDone}
use Rattle.run_command.proofs.groups.run_groups.Given as goal

abbrev pub invariant-loop-group : goal.invariant-loop-group
invariant-loop-group g l = record {
  callers : AreCallers l.board (callers_of l.workers);
  goes_on : ShelfGoesOn (seen g.F.Shelf.told g.F.Shelf.absent g.F.Shelf.faults l.fn.shelf) (seen g.F.Shelf.told g.F.Shelf.absent g.F.Shelf.faults l.shelf);
  done : (script : List ℕ) → ScriptWasRead (g.F.Shelf.told l.fn.shelf) script l.groups → HasDone (g.F.Shelf.told l.fn.shelf) (take l.group-index l.groups) l.board.shape l.budget (accounts_of l.workers) l.text.items;
}
