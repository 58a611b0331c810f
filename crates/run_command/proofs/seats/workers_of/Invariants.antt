use Rattle.std.proofs.Common.{◌≡◌, ◌++◌}
use Rattle.script_run.specs.Workers.{callers_of}
use Rattle.run_command.proofs.seats.workers_of.Given as goal

abbrev pub invariant-loop-caller : goal.invariant-loop-caller
invariant-loop-caller l = record {
  parts : callers_of l.workers.items ++ l.caller-iterator.rest.items ≡ l.fn.callers.items;
}
