use Rattle.std.proofs.Common.{◌-◌, sym, ◌∙◌, arith}
use Rattle.told_history.proofs.Weighed.{weighed-more, weighed-passed, weighed-spent}
use Rattle.told_history.proofs.over.Weighing.take.Goals as goal

pub returns-then-not-screens-clause-paid : goal.returns-then-not-screens-clause-paid
returns-then-not-screens-clause-paid c = λ yes history budget number k name next live has.
    let t = c.args.self.now in
    let passed = c.screens.ensures.unscreened c.if-not-screens.true in
    weighed-passed t.matcher history budget t.left number k name c.args.mol.now next has live passed

pub overflow_sub-self : goal.overflow_sub-self
overflow_sub-self c =
    let is = rw c.screens.ensures.same at (c.cost_of.ensures.some c.in-Some.cost).0 c.in-Some.is in
    omega (arith, is.1)

pub returns-in-Some-clause-paid : goal.returns-in-Some-clause-paid
returns-in-Some-clause-paid c = λ yes history budget number k name next live has.
    let t = c.args.self.now in
    let is = rw c.screens.ensures.same at (c.cost_of.ensures.some c.in-Some.cost).0 c.in-Some.is in
    let screened = c.screens.ensures.screened c.if-not-screens.false in
    weighed-more t.matcher history budget t.left (t.left - c.in-Some.cost) number k name c.args.mol.now next has live screened (omega (arith, is.0, is.1))

pub returns-in-None-clause-spent : goal.returns-in-None-clause-spent
returns-in-None-clause-spent c = λ no history budget number k name next live has.
    let t = c.args.self.now in
    let screened = c.screens.ensures.screened c.if-not-screens.false in
    weighed-spent t.matcher history budget t.left number k name c.args.mol.now next has live screened (rw c.screens.ensures.same at c.cost_of.ensures.none.0 c.in-None.is)
