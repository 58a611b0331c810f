use Rattle.std.proofs.Common.{◌≡◌, length}
use Rattle.script_run.proofs.group.no_outcomes.Given as goal

abbrev pub invariant-loop : goal.invariant-loop
invariant-loop l = length l.outcomes.items ≡ l.counter
