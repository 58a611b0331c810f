use Rattle.board.specs.Seated.{IsAtRest}
use Rattle.tree_tests.proofs.Callers.{each_of_all}
use Rattle.tree_tests.proofs.boards.close.Goals as goal

pub gather-last-requires-clause-callers : goal.gather-last-requires-clause-callers
gather-last-requires-clause-callers c = each_of_all (IsAtRest c.args.board) c.end_all.new.callers.items c.in_ok-end_all.ensures.callers
