use Rattle.pool_tests.specs.Ready.{IsResting}
use Rattle.pool_tests.proofs.hands.all_turns.Given as goal

abbrev pub invariant-loop : goal.invariant-loop
invariant-loop l = IsResting l.board l.caller
