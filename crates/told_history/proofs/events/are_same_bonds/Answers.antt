use Rattle.std.proofs.Common.{length, sym, ap, ◌∙◌, arith}
use Rattle.std.proofs.lemmas.List.{take_all}
use Rattle.told_history.proofs.Zips.{alike_more, alike_not}
use Rattle.told_history.proofs.events.are_same_bonds.Goals as goal

pub returns-then-one-other-clause-other : goal.returns-then-one-other-clause-other
returns-then-one-other-clause-other c = λ no same. c.if-one-other.true (ap length same)

pub returns-then-not-is_same_bond-clause-other : goal.returns-then-not-is_same_bond-clause-other
returns-then-not-is_same_bond-clause-other c = λ no same.
    alike_not c.args.one.now c.args.other.now c.loop-index.index _ _ same c.loop-index-test.true (c.is_same_bond.ensures.other c.if-not-is_same_bond.true)

pub loop-index-preserved : goal.loop-index-preserved
loop-index-preserved c =
    alike_more c.args.one.now c.args.other.now c.loop-index.index _ _ c.loop-index.invariant c.loop-index-test.true (omega (arith, c.loop-index-test.true, c.if-one-other.false))
    (c.is_same_bond.ensures.is c.if-not-is_same_bond.false)

pub returns-clause-is : goal.returns-clause-is
returns-clause-is c = λ yes.
    sym (take_all c.loop-index.index c.args.one.now (omega (arith, c.loop-index-test.false))) ∙ c.loop-index.invariant
    ∙ take_all c.loop-index.index c.args.other.now (omega (arith, c.loop-index-test.false, c.if-one-other.false))
