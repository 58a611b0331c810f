use Rattle.class_tree.specs.Walking.{IsAtLeaf, Reads}
use Rattle.class_tree.proofs.leaf.fill_leaf.Given as goal

abbrev pub invariant-loop-index : goal.invariant-loop-index
invariant-loop-index l = record {
  reads : Reads l.fn.caller l.caller l.at.number;
  leaf : IsAtLeaf l.board.shape l.caller.account l.at l.depth l.rank l.index l.target;
}
