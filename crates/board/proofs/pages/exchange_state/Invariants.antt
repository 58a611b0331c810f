use Rattle.board.proofs.pages.exchange_state.Given as goal

abbrev pub ghosts-take_state : goal.ghosts-take_state
ghosts-take_state a = record { page = a.page }
