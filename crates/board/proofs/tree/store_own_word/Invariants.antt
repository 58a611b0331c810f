use Rattle.board.proofs.tree.store_own_word.Given as goal

abbrev pub ghosts-store_own_of : goal.ghosts-store_own_of
ghosts-store_own_of a = record { page = a.page; place = a.place }
