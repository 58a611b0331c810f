use Rattle.board.specs.Seated.{IsAtRest, IsLoader}
use Rattle.tree_tests.specs.Ready.{WasGiven}
use Rattle.tree_tests.proofs.boards.take_all.Given as goal

abbrev pub invariant-loop-count : goal.invariant-loop-count
invariant-loop-count l = record {
  rest : IsAtRest l.board l.loading.caller;
  loader : IsLoader l.loading.caller;
  given : WasGiven l.loading.caller l.count;
}
