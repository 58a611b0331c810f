use Rattle.std.proofs.Common.{◌≡◌, ◌+◌, length}
use Rattle.std.specs.List.{All}
use Rattle.board.specs.Seated.{IsAtRest}
use Rattle.tree_tests.specs.Ready.{IsLoading}
use Rattle.tree_tests.proofs.boards.end_all.Given as goal

abbrev pub invariant-loop-loading : goal.invariant-loop-loading
invariant-loop-loading l = record {
  loadings : All (λ x. IsLoading l.board x.caller) l.loading-iterator.rest.items;
  callers : All (IsAtRest l.board) l.callers.items;
  count : length l.loading-iterator.rest.items + length l.callers.items ≡ length l.fn.loadings.items + length l.fn.callers.items;
}
