use Rattle.std.proofs.Common.{◌<◌, length, refl, ap, arith, rules}
use Rattle.embed.proofs.Counting.{Counted-start, Counted-below, Counted-end, Longer-at, short-below, short-at, free-whole}
use Rattle.embed.proofs.count.+count.Goals as goal

pub returns-then-len-atoms-clause-paid : goal.returns-then-len-atoms-clause-paid
returns-then-len-atoms-clause-paid t c = λ _.
    omega (
      arith,
      free-whole c.args.target.now.query.now c.args.target.now.mol.now c.args.map.now
          (omega (arith, c.len.ensures.value, ap length c.atoms.ensures.items, c.if-len-atoms.true)),
    )

pub returns-then-left-target-clause-short : goal.returns-then-left-target-clause-short
returns-then-left-target-clause-short t c = λ _.
    let more : length c.args.map.now < length c.args.target.now.query.now.atoms = omega
    (arith, c.requires.partial.fits, ap length c.atoms.ensures.items) in
    short-at _ _ _ _ _ more c.requires.price (omega arith)

pub loop-p-init : goal.loop-p-init
loop-p-init t c =
    let more : length c.args.map.now < length c.args.target.now.query.now.atoms = omega
    (arith, c.requires.partial.fits, ap length c.atoms.ensures.items) in
    Counted-start _ _ _ _ _ _ c.requires.partial more c.requires.price (omega arith)

pub count-requires : goal.count-requires
count-requires t c =
    let step = Longer-at _ _ _ _ _ _ _ _ _ _ _ c.atoms.ensures.valid c.loop-p.invariant refl c.in-Some.ensures.some c.push.ensures in
    (omega (arith, step.more, step.len), (step.partial, c.requires.price))

pub returns-then-not-count-clause-short : goal.returns-then-not-count-clause-short
returns-then-not-count-clause-short t c = λ _.
    let step = Longer-at _ _ _ _ _ _ _ _ _ _ _ c.atoms.ensures.valid c.loop-p.invariant refl c.in-Some.ensures.some c.push.ensures in
    short-below _ _ _ _ _ _ _ _ _ step (c.count.ensures.short (search rules))

pub loop-p-preserved : goal.loop-p-preserved
loop-p-preserved t c =
    let step = Longer-at _ _ _ _ _ _ _ _ _ _ _ c.atoms.ensures.valid c.loop-p.invariant refl c.in-Some.ensures.some c.push.ensures in
    Counted-below _ _ _ _ _ _ _ _ _ _ _ _ _ step c.loop-p.invariant (c.count.ensures.paid (search rules))
    (c.count.ensures.same (search rules)) c.pop.ensures

pub returns-clause-paid : goal.returns-clause-paid
returns-clause-paid t c = λ _. Counted-end _ _ _ _ _ _ _ _ _ c.atoms.ensures.valid c.loop-p.invariant refl c.in_default.ensures.none
