use Rattle.tree_tests.proofs.Callers.{new_callers}
use Rattle.tree_tests.proofs.boards.callers_of.Goals as goal

pub returns-clause-callers : goal.returns-clause-callers
returns-clause-callers c = new_callers _ _ c.in_ok-open_board.ensures.callers
