use Rattle.board_core.specs.Steps.{InnerBehind}
use Rattle.board.proofs.tree.link_next_inner.Given as goal

abbrev pub ghosts-claim_of : goal.ghosts-claim_of
ghosts-claim_of a = record { claim = InnerBehind a._number a.word a._code }
