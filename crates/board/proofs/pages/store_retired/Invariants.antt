use Rattle.board.proofs.pages.store_retired.Given as goal

abbrev pub ghosts-retire_with : goal.ghosts-retire_with
ghosts-retire_with a = record { page = a.page }
