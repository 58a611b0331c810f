use Rattle.std.proofs.Common.{◌≡◌}
use Rattle.pub_log.proofs.locked.lock.Given as goal

abbrev pub invariant-loop : goal.invariant-loop
invariant-loop g l = l.caller ≡ l.fn.caller
