use Rattle.board_core.specs.Passing.{kept_at}
use Rattle.board.proofs.recall.recall_leaf.Given as goal

abbrev pub ghosts-recall_of : goal.ghosts-recall_of
ghosts-recall_of a = record { number = a._number; to = kept_at a.caller.now.account.tree.lasting a.page }
