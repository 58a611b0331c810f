use Rattle.std.proofs.Common.{◌≡◌, ◌+◌, ◌-◌, length}
use Rattle.board.specs.Seated.{with_stock}
use Rattle.class_tree.specs.Splitting.{AreTaken}
use Rattle.class_tree.proofs.taken.keep_all.Given as goal

abbrev pub invariant-loop-i : goal.invariant-loop-i
invariant-loop-i l = record {
  only : l.caller ≡ with_stock l.fn.caller l.caller.stock;
  taken : AreTaken l.caller l.pages (l.count - l.i);
  size : length l.caller.stock ≡ length l.fn.caller.stock + l.i;
}
