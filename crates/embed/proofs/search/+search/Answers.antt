use Rattle.std.proofs.Common.{◌<◌, length, refl, ap, arith, rules}
use Rattle.embed.proofs.Maps.{IsFirstFrom-whole}
use Rattle.embed.proofs.Costs.{IsSpent-at, Ledger-end}
use Rattle.embed.proofs.Steps.{Tries-start, Tries-end, Step-at, Step-partial, Step-found, Step-paid, Step-spent, Step-stuck}
use Rattle.embed.proofs.search.+search.Goals as goal

pub returns-then-len-atoms-clause-found : goal.returns-then-len-atoms-clause-found
returns-then-len-atoms-clause-found t c = λ _. IsFirstFrom-whole _ _ _ c.atoms.ensures.valid c.requires (search rules)

pub returns-then-budget-target-clause-spent : goal.returns-then-budget-target-clause-spent
returns-then-budget-target-clause-spent t c = λ _.
    let more : length c.args.map.now < length c.args.target.now.query.now.atoms = omega
    (arith, c.requires.fits, ap length c.atoms.ensures.items) in
    IsSpent-at _ _ _ _ _ more c.args.target.now.low_price (omega arith)

pub loop-p-init : goal.loop-p-init
loop-p-init t c =
    let more : length c.args.map.now < length c.args.target.now.query.now.atoms = omega
    (arith, c.requires.fits, ap length c.atoms.ensures.items) in
    Tries-start _ _ _ _ _ _ c.atoms.ensures.valid more c.args.target.now.low_price (omega arith)

pub search-requires : goal.search-requires
search-requires t c =
    let step = Step-at _ _ _ _ _ _ _ _ _ _ _ c.atoms.ensures.valid c.requires c.loop-p.invariant
    refl c.in-Some.ensures.some c.push.ensures in
    (omega (arith, step.more, step.len), Step-partial _ _ _ _ _ _ step)

pub returns-in-Yes-clause-found : goal.returns-in-Yes-clause-found
returns-in-Yes-clause-found t c = λ _.
    let step = Step-at _ _ _ _ _ _ _ _ _ _ _ c.atoms.ensures.valid c.requires c.loop-p.invariant
    refl c.in-Some.ensures.some c.push.ensures in
    Step-found _ _ _ _ _ _ _ step (c.in-Yes.ensures.found (search rules))

pub returns-in-Yes-clause-paid : goal.returns-in-Yes-clause-paid
returns-in-Yes-clause-paid t c = λ _.
    let step = Step-at _ _ _ _ _ _ _ _ _ _ _ c.atoms.ensures.valid c.requires c.loop-p.invariant
    refl c.in-Some.ensures.some c.push.ensures in
    Ledger-end _ _ _ _ _ _ _
    (Step-paid _ _ _ _ _ _ _ _ _ _ step c.loop-p.invariant.ledger (c.in-Yes.ensures.paid (search rules)))

pub returns-in-Spent-clause-spent : goal.returns-in-Spent-clause-spent
returns-in-Spent-clause-spent t c = λ _.
    let step = Step-at _ _ _ _ _ _ _ _ _ _ _ c.atoms.ensures.valid c.requires c.loop-p.invariant
    refl c.in-Some.ensures.some c.push.ensures in
    Step-spent _ _ _ _ _ _ _ _ _ _ step c.loop-p.invariant.ledger (c.in-Spent.ensures.spent (search rules))

pub loop-p-preserved : goal.loop-p-preserved
loop-p-preserved t c =
    let step = Step-at _ _ _ _ _ _ _ _ _ _ _ c.atoms.ensures.valid c.requires c.loop-p.invariant
    refl c.in-Some.ensures.some c.push.ensures in
    Step-stuck _ _ _ _ _ _ _ _ _ _ _ _ _ step c.loop-p.invariant (c.in-No.ensures.stuck (search rules))
    (c.in-No.ensures.paid (search rules)) (c.in-No.ensures.same (search rules)) c.pop.ensures

pub returns-clause-stuck : goal.returns-clause-stuck
returns-clause-stuck t c = λ _. Tries-end _ _ _ _ _ _ _ _ _ c.atoms.ensures.valid c.loop-p.invariant
    refl c.in_default.ensures.none

pub returns-clause-paid : goal.returns-clause-paid
returns-clause-paid t c = λ _. Ledger-end _ _ _ _ _ _ _ c.loop-p.invariant.ledger
