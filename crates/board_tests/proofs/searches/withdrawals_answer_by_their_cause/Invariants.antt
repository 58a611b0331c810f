use Rattle.board.specs.Seated.{IsAtRest}
use Rattle.board_tests.specs.Loading.{CanLoad}
use Rattle.board_tests.proofs.searches.withdrawals_answer_by_their_cause.Given as goal

abbrev pub invariant-loop-step : goal.invariant-loop-step
invariant-loop-step g l = record {
  rest : IsAtRest l.shared l.loader;
  loader : CanLoad l.loader;
  searches : IsAtRest l.shared l.searcher;
}
