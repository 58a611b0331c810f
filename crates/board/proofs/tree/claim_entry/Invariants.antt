use Rattle.board_core.specs.Steps.{EntryOf}
use Rattle.board.proofs.tree.claim_entry.Given as goal

abbrev pub ghosts-claim_of : goal.ghosts-claim_of
ghosts-claim_of a = record { claim = EntryOf a._number a._row }
