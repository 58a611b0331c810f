use Rattle.std.proofs.Common.{◌≡◌, ◌+◌, length}
use Rattle.std.specs.List.{All}
use Rattle.board.specs.Seated.{IsAtRest}
use Rattle.tree_tests.specs.Ready.{IsResting, IsLoading}
use Rattle.tree_tests.proofs.boards.sorted.Given as goal

abbrev pub invariant-loop-caller : goal.invariant-loop-caller
invariant-loop-caller l = record {
  callers : All (IsResting l.board) l.caller-iterator.rest.items;
  loadings : All (λ x. IsLoading l.board x.caller) l.crowd.loadings.items;
  searchers : All (IsAtRest l.board) l.crowd.searchers.items;
  count : length l.caller-iterator.rest.items + (length l.crowd.loadings.items + length l.crowd.searchers.items) ≡ length l.fn.callers.items;
}
