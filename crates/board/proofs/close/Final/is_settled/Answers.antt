use Rattle.std.proofs.Common.{subst}
use Rattle.board.specs.Closed.{IsSettled, IsShown}
use Rattle.board.proofs.Endings.{settled, shown}
use Rattle.board.proofs.close.Final.is_settled.Goals as goal

pub returns-clause-settled : goal.returns-clause-settled
returns-clause-settled c = subst IsSettled c.self.view_is (settled _ _ _ c.self.invariant.4)

pub returns-clause-shown : goal.returns-clause-shown
returns-clause-shown c = subst IsShown c.self.view_is (shown _ _ _ c.self.invariant.4)
