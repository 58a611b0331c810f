use Rattle.board.specs.Seated.{IsLoader}
use Rattle.class_tree.specs.Inserting.{IsStocked}
use Rattle.class_tree.proofs.Passed.{IsAlongLeaves}
use Rattle.class_tree.proofs.leaf.fill_from.Given as goal

abbrev pub invariant-loop-rank : goal.invariant-loop-rank
invariant-loop-rank l = record {
  along : IsAlongLeaves l.board.shape l.fn.caller l.caller l.fn.first l.fn.from l.at l.rank l.target;
  stocked : IsStocked l.caller;
  loader : IsLoader l.caller;
}
