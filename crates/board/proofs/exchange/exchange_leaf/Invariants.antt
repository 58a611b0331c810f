use Rattle.board.proofs.exchange.exchange_leaf.Given as goal

abbrev pub ghosts-exchange_leaf_of : goal.ghosts-exchange_leaf_of
ghosts-exchange_leaf_of a = record { exchange = record { inner = a.number; index = a.index; code = a.code; leaf = a.leaf; numbers = a.numbers.now; first = a.first } }
