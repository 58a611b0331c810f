use Rattle.board.proofs.passing.pass_leaf.Given as goal

abbrev pub ghosts-pass_leaf_of : goal.ghosts-pass_leaf_of
ghosts-pass_leaf_of a = record { number = a.number; index = 0; code = 0 }
