use Rattle.board.proofs.regions.seal_block.Given as goal

abbrev pub ghosts-complete : goal.ghosts-complete
ghosts-complete a = record { block = record { place = a.place; size = a.size } }
