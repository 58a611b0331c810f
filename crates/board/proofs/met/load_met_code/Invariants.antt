use Rattle.board.proofs.met.load_met_code.Given as goal

abbrev pub ghosts-load_met_code_of : goal.ghosts-load_met_code_of
ghosts-load_met_code_of a = record { number = 0; index = 0; entry = a.entry; code = a.code }
