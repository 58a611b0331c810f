use Rattle.board.proofs.tree.begin_row.Given as goal

abbrev pub ghosts-begin_row_of : goal.ghosts-begin_row_of
ghosts-begin_row_of a = record { loaded_row = record { block = a.block; atom = a.atom }; loaded_code = a.code }
