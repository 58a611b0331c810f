use Rattle.std.proofs.Common.{◌+◌, ◌≤◌, length}
use Rattle.board.specs.Seated.{IsOf, IsLoader}
use Rattle.pool_tests.proofs.hands.given.Given as goal

abbrev pub invariant-loop-count : goal.invariant-loop-count
invariant-loop-count l = record {
  of : IsOf l.board l.caller;
  loader : IsLoader l.caller;
  few : length l.caller.account.pool.own ≤ l.count + 1;
}
