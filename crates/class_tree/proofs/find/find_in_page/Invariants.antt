use Rattle.class_tree.specs.Walking.{IsSeeking, Reads}
use Rattle.class_tree.proofs.find.find_in_page.Given as goal

abbrev pub invariant-loop-index : goal.invariant-loop-index
invariant-loop-index l = record {
  reads : Reads l.fn.caller l.caller l.at.number;
  seeking : IsSeeking l.board.shape l.caller.account l.at l.depth l.rank l.index l.target;
}
