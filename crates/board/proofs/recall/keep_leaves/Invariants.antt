use Rattle.board.proofs.recall.keep_leaves.Given as goal

abbrev pub ghosts-keep_of : goal.ghosts-keep_of
ghosts-keep_of a = record { first = a._first_number; last = a._number }
