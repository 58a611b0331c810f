use Rattle.std.proofs.Common.{ap}
use Rattle.board.specs.Seated.{Seated}
use Rattle.board.proofs.StagedStays.{room_same}
use Rattle.tree_tests.proofs.loads.lock_with.Goals as goal

pub returns-clause-staged : goal.returns-clause-staged
returns-clause-staged g c =
    room_same c.args.board.now.shape c.args.caller.now.account c.lock.new.caller.account (ap (λ (x : Seated). x.account.who) c.lock.ensures.account) (ap (λ (x : Seated). x.account.room) c.lock.ensures.account)
    (ap (λ (x : Seated). x.account.tree.placed) c.lock.ensures.account) _ c.requires.staged
