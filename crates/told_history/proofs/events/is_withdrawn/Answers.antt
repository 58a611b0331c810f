use Rattle.std.proofs.Common.{refl, arith}
use Rattle.std.proofs.lemmas.Bool.{leb-true, leb-false}
use Rattle.told_history.proofs.TellEvents.{gone, not_gone}
use Rattle.told_history.proofs.events.is_withdrawn.Goals as goal

pub returns-then-at-ge1-clause-is : goal.returns-then-at-ge1-clause-is
returns-then-at-ge1-clause-is c = λ is history tells.
    gone c.args.told.now history c.args.front c.args.number _ tells c.requires.front c.requires.some c.requires.within refl (omega (arith, c.if-at-ge1.true)) (leb-true _ c.args.front is)

pub returns-then-at-ge1-clause-other : goal.returns-then-at-ge1-clause-other
returns-then-at-ge1-clause-other c = λ no history tells.
    let over = leb-false _ c.args.front no in
    not_gone c.args.told.now history c.args.front c.args.number tells c.requires.front c.requires.some c.requires.within (λ first last. absurd (omega (arith, over, last)))

pub returns-else-at-ge1-clause-other : goal.returns-else-at-ge1-clause-other
returns-else-at-ge1-clause-other c = λ no history tells.
    not_gone c.args.told.now history c.args.front c.args.number tells c.requires.front c.requires.some c.requires.within (λ first last. absurd (omega (arith, first, c.if-at-ge1.false)))
