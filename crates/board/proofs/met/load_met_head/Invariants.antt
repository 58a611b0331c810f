use Rattle.board.proofs.met.load_met_head.Given as goal

abbrev pub ghosts-load_met_head_of : goal.ghosts-load_met_head_of
ghosts-load_met_head_of a = record { number = 0; index = 0; entry = a.entry; code = 0 }
