use Rattle.board.proofs.regions.store_ended.Given as goal

abbrev pub ghosts-mark_ended : goal.ghosts-mark_ended
ghosts-mark_ended a = record { ending = record { target = a.target; block = a.block } }
