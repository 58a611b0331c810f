use Rattle.std.proofs.Common.{take, arith}
use Rattle.told_history.proofs.Weighed.{weighed-none, weighs-over, weighs-within}
use Rattle.told_history.proofs.over.check_over.Goals as goal

pub loop-index-init : goal.loop-index-init
loop-index-init c = record {
  asked_is = c.new-weighing.ensures.asked;
  has = λ history tells. rw c.new-weighing.ensures.left (weighed-none c.args.query.now (take c.args.front history) c.args.budget);
}

pub returns-then-not-weigh_told-clause-over : goal.returns-then-not-weigh_told-clause-over
returns-then-not-weigh_told-clause-over c = λ yes history tells.
    let w = c.loop-index.weighing in
    weighs-over c.args.told.now c.args.query.now c.args.front c.args.budget c.loop-index.index w.matcher w.left c.loop-index.invariant c.requires.front (omega (arith, c.loop-index-test.true))
    (c.weigh_told.ensures.spent c.if-not-weigh_told.true) history tells

pub returns-clause-within : goal.returns-clause-within
returns-clause-within c = λ no history tells.
    let w = c.loop-index.weighing in
    weighs-within c.args.told.now c.args.query.now c.args.front c.args.budget c.loop-index.index w.matcher w.left c.loop-index.invariant c.requires.front (omega (arith, c.loop-index.auto.index-end, c.loop-index-test.false)) history tells
