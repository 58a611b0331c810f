use Rattle.board.proofs.tree.load_own_code.Given as goal

abbrev pub ghosts-load_own_code_of : goal.ghosts-load_own_code_of
ghosts-load_own_code_of a = record { loaded_row = record { block = a.block; atom = a.atom }; loaded_code = a.code }
