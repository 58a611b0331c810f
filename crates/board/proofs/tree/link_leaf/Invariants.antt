use Rattle.board_core.specs.Steps.{LeafBelow}
use Rattle.board.proofs.tree.link_leaf.Given as goal

abbrev pub ghosts-claim_of : goal.ghosts-claim_of
ghosts-claim_of a = record { claim = LeafBelow a._number a._index a._code a.word a._row }
