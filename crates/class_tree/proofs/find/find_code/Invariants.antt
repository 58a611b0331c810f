use Rattle.board.specs.Seated.{IsLoader}
use Rattle.class_tree.specs.Inserting.{IsStocked}
use Rattle.class_tree.proofs.Searching.{IsAlong}
use Rattle.class_tree.proofs.find.find_code.Given as goal

abbrev pub invariant-loop-rank : goal.invariant-loop-rank
invariant-loop-rank l = record {
  along : IsAlong l.board.shape l.fn.caller l.caller l.fn.first l.at l.depth l.rank l.target;
  stocked : IsStocked l.caller;
  loader : IsLoader l.caller;
}
