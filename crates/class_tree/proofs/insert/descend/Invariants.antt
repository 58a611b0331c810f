use Rattle.board.specs.Seated.{IsLoader}
use Rattle.class_tree.specs.Inserting.{IsStocked}
use Rattle.class_tree.proofs.Begun.{IsAtDepth}
use Rattle.class_tree.proofs.insert.descend.Given as goal
use Rattle.board_core.specs.Steps.{MayLink}
use Rattle.class_tree.specs.Walking.{left_at}

abbrev pub invariant-loop-depth : goal.invariant-loop-depth
invariant-loop-depth l = record {
  at_depth : IsAtDepth l.board.shape l.fn.caller l.caller l.at l.depth l.target;
  stocked : IsStocked l.caller;
  loader : IsLoader l.caller;
  few : MayLink l.caller.account (left_at l.depth);
}
