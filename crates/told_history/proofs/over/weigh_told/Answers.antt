use Rattle.std.proofs.Common.{take}
use Rattle.told_history.proofs.LiveTold.{live_none, live_some}
use Rattle.told_history.proofs.Weighed.{weighed-no_molecule, weighed-none_live}
use Rattle.told_history.proofs.over.weigh_told.Goals as goal

pub returns-in_default-clause-paid : goal.returns-in_default-clause-paid
returns-in_default-clause-paid c = λ yes history budget k next tells has.
    let w = c.args.weighing.now in
    weighed-none_live w.matcher (take c.args.front history) budget w.left c.args.number k next has (c.live_record.ensures.none c.in_default.is history tells)

pub returns-in-None-clause-paid : goal.returns-in-None-clause-paid
returns-in-None-clause-paid c = λ yes history budget k next tells has.
    let w = c.args.weighing.now in
    let one = c.in-Some.live in
    weighed-no_molecule w.matcher (take c.args.front history) budget w.left c.args.number k one.name.now next has
    (live_none (take c.args.front history) c.args.number one.name.now one.mol c.in-None.is (c.in-Some.ensures.live history tells))

pub returns-in-Some-mol-clause-paid : goal.returns-in-Some-mol-clause-paid
returns-in-Some-mol-clause-paid c = λ yes history budget k next tells has.
    let one = c.in-Some.live in
    c.take.ensures.paid yes (take c.args.front history) budget c.args.number k one.name.now next
    (live_some (take c.args.front history) c.args.number one.name.now one.mol c.in-Some-mol.mol c.in-Some-mol.is (c.in-Some.ensures.live history tells)) has

pub returns-in-Some-mol-clause-spent : goal.returns-in-Some-mol-clause-spent
returns-in-Some-mol-clause-spent c = λ no history budget k next tells has.
    let one = c.in-Some.live in
    c.take.ensures.spent no (take c.args.front history) budget c.args.number k one.name.now next
    (live_some (take c.args.front history) c.args.number one.name.now one.mol c.in-Some-mol.mol c.in-Some-mol.is (c.in-Some.ensures.live history tells)) has
