use Rattle.board.proofs.met.load_met_entry.Given as goal

abbrev pub ghosts-load_met_entry_of : goal.ghosts-load_met_entry_of
ghosts-load_met_entry_of a = record { number = a.number; index = a.index; entry = 0; code = 0 }
