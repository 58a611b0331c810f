use Rattle.board.proofs.regions.store_shown.Given as goal

abbrev pub ghosts-mark_shown : goal.ghosts-mark_shown
ghosts-mark_shown a = record { block = a.block }
