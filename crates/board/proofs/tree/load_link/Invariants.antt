use Rattle.board.proofs.tree.load_link.Given as goal

abbrev pub ghosts-load_link_of : goal.ghosts-load_link_of
ghosts-load_link_of a = record { number = a.number; index = a.index; code = a.code }
