use Rattle.pool_tests.proofs.Idle.{new_callers, all_resting}
use Rattle.pool_tests.proofs.made.open.Goals as goal

pub returns-clause-callers : goal.returns-clause-callers
returns-clause-callers c = new_callers _ _ c.in_ok-open_board.ensures.callers

pub returns-clause-resting : goal.returns-clause-resting
returns-clause-resting c = all_resting _ _ (new_callers _ _ c.in_ok-open_board.ensures.callers)
