use Rattle.std.proofs.Common.{◌≡◌, length}
use Rattle.class_tree.specs.Splitting.{TakesAll}
use Rattle.class_tree.proofs.taken.take_all.Given as goal

abbrev pub invariant-loop-i : goal.invariant-loop-i
invariant-loop-i l = record {
  size : length l.pages ≡ 16;
  takes : TakesAll l.fn.caller l.caller l.pages l.i;
}
