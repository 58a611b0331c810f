use Rattle.board.proofs.tree.load_more.Given as goal

abbrev pub ghosts-load_more_of : goal.ghosts-load_more_of
ghosts-load_more_of a = record { number = a.number; index = 0; code = 0 }
