use Rattle.board_core.specs.Steps.{CodeOf}
use Rattle.board.proofs.tree.claim_code.Given as goal

abbrev pub ghosts-claim_of : goal.ghosts-claim_of
ghosts-claim_of a = record { claim = CodeOf a._number a._code }
