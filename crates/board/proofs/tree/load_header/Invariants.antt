use Rattle.board.proofs.tree.load_header.Given as goal

abbrev pub ghosts-load_header_of : goal.ghosts-load_header_of
ghosts-load_header_of a = record { number = a.number; index = 0; code = 0 }
