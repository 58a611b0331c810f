use Rattle.board_core.specs.Steps.{LeafBehind}
use Rattle.board.proofs.tree.link_next_leaf.Given as goal

abbrev pub ghosts-claim_of : goal.ghosts-claim_of
ghosts-claim_of a = record { claim = LeafBehind a._number a.word a._row }
