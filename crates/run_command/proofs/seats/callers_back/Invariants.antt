use Rattle.std.proofs.Common.{◌≡◌, ◌+◌, ◌≤◌, ◌++◌, length, vec_len}
use Rattle.std.specs.Prelude.{vec_capacity}
use Rattle.script_run.specs.Workers.{callers_of}
use Rattle.run_command.proofs.seats.callers_back.Given as goal

abbrev pub invariant-loop-worker : goal.invariant-loop-worker
invariant-loop-worker l = record {
  parts : l.seats.items ++ callers_of l.worker-iterator.rest.items ≡ callers_of l.fn.workers.items;
  room : vec_len l.seats + length l.worker-iterator.rest.items ≤ vec_capacity l.seats;
}
