use Rattle.board_core.specs.After.{visited}
use Rattle.board.proofs.recall.reach_again.Given as goal

abbrev pub ghosts-recall_of : goal.ghosts-recall_of
ghosts-recall_of a = record { number = a._number; to = visited a.caller.now.account.tree.reached a._number }
