use Rattle.board.proofs.pages.load_state.Given as goal

abbrev pub ghosts-load_state_of : goal.ghosts-load_state_of
ghosts-load_state_of a = record { page = a.page }
