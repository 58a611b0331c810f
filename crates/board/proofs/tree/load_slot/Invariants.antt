use Rattle.board.proofs.tree.load_slot.Given as goal

abbrev pub ghosts-load_slot_of : goal.ghosts-load_slot_of
ghosts-load_slot_of a = record { number = a.number; index = 0; code = 0 }
