use Rattle.board.specs.Seated.{IsAtRest}
use Rattle.board_tests.specs.Loading.{CanLoad}
use Rattle.board_tests.proofs.locks.refuses_numbers_of_an_empty_history.Given as goal

abbrev pub invariant-loop-number : goal.invariant-loop-number
invariant-loop-number g l = record {
  rest : IsAtRest l.board l.caller;
  loader : CanLoad l.caller;
}
