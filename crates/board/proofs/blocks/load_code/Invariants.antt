use Rattle.board.proofs.blocks.load_code.Given as goal

abbrev pub ghosts-load_code_of : goal.ghosts-load_code_of
ghosts-load_code_of a = record { loaded_row = record { block = a.block; atom = a.atom }; loaded_code = a.code }
