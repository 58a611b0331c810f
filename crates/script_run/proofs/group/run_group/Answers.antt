use Rattle.std.proofs.Common.{◌≡◌, length, refl, arith}
use Rattle.board_jobs.proofs.Chained.{if_err, on_err}
use Rattle.script_run.specs.Workers.{accounts_of, callers_of}
use Rattle.script_run.proofs.Callers.{all_of, all_workers, met_callers}
use Rattle.script_run.proofs.Groups.{all_merged, all_queues, all_whole, gone_on, group_broken, group_done, group_prunes, group_reads, group_unbegun, lent_queues, worked_callers}
use Rattle.script_run.proofs.Gates.{gates_before, gates_front, gates_whole}
use Rattle.script_run.proofs.group.run_group.Goals as goal

pub work_all-requires-clause-workers : goal.work_all-requires-clause-workers
work_all-requires-clause-workers g c κs within = all_workers c.args.board.now (callers_of c.args.workers.now) c.requires.callers

pub returns-then-not-are_whole-clause-callers : goal.returns-then-not-are_whole-clause-callers
returns-then-not-are_whole-clause-callers g c =
    worked_callers c.args.board.now c.args.files.now c.args.budget c.args.group.now.jobs (callers_of c.args.workers.now) (callers_of c.work_all.new.workers) c.work_all.new.outcomes
    c.requires.callers c.work_all.ensures.did

pub returns-then-not-are_whole-clause-broken : goal.returns-then-not-are_whole-clause-broken
returns-then-not-are_whole-clause-broken g c =
    gone_on c.args.board.now.shape c.args.files.now c.args.budget c.args.group.now (accounts_of c.args.workers.now) (accounts_of c.work_all.new.workers)
    (group_broken c.args.board.now c.args.files.now c.args.budget c.args.group.now c.args.workers.now c.work_all.new.workers c.work_all.new.outcomes c.requires.callers c.work_all.ensures.did)

pub returns-then-not-are_whole-clause-begun : goal.returns-then-not-are_whole-clause-begun
returns-then-not-are_whole-clause-begun g c =
    group_broken c.args.board.now c.args.files.now c.args.budget c.args.group.now c.args.workers.now c.work_all.new.workers c.work_all.new.outcomes c.requires.callers c.work_all.ensures.did

pub returns-in_err-outcomes-clause-begun : goal.returns-in_err-outcomes-clause-begun
returns-in_err-outcomes-clause-begun g c =
    if_err c.from_residual.result (group_unbegun c.args.board.now.shape c.args.files.now c.args.budget c.args.group.now c.args.workers.now)

pub returns-in_err-blocks-clause-begun : goal.returns-in_err-blocks-clause-begun
returns-in_err-blocks-clause-begun g c =
    if_err c.from_residual-in_err-blocks.result
    (group_broken c.args.board.now c.args.files.now c.args.budget c.args.group.now c.args.workers.now c.work_all.new.workers c.work_all.new.outcomes c.requires.callers c.work_all.ensures.did)

pub returns-in_err-blocks-clause-callers : goal.returns-in_err-blocks-clause-callers
returns-in_err-blocks-clause-callers g c =
    worked_callers c.args.board.now c.args.files.now c.args.budget c.args.group.now.jobs (callers_of c.args.workers.now) (callers_of c.work_all.new.workers) c.work_all.new.outcomes
    c.requires.callers c.work_all.ensures.did

pub returns-in_err-blocks-clause-broken : goal.returns-in_err-blocks-clause-broken
returns-in_err-blocks-clause-broken g c =
    on_err c.from_residual-in_err-blocks.result
    (gone_on c.args.board.now.shape c.args.files.now c.args.budget c.args.group.now (accounts_of c.args.workers.now) (accounts_of c.work_all.new.workers)
    (group_broken c.args.board.now c.args.files.now c.args.budget c.args.group.now c.args.workers.now c.work_all.new.workers c.work_all.new.outcomes c.requires.callers c.work_all.ensures.did))

pub merge-requires-clause-queues : goal.merge-requires-clause-queues
merge-requires-clause-queues g c =
    let b = c.args.board.now in
    let os = c.work_all.new.outcomes in
    let n = c.in_ok-outcomes.outcomes.len in
    let all : n ≡ length os = omega arith in
    lent_queues b.shape c.shape.result c.args.group.now.jobs c.deref_mut-2.result.now os _ n c.deref_mut-2.ensures.value all c.shape.ensures.value
    (all_queues b c.args.files.now c.args.budget c.args.group.now.jobs c.args.workers.now c.work_all.new.workers os c.shape.ensures.limits
    c.requires.callers c.work_all.ensures.did (all_whole c.deref.result.now os _ n c.deref.ensures.value all (c.if-not-are_whole.ensures refl)))

pub meet-requires : goal.meet-requires
meet-requires g c =
    all_of c.args.board.now (callers_of c.work_all.new.workers)
    (worked_callers c.args.board.now c.args.files.now c.args.budget c.args.group.now.jobs (callers_of c.args.workers.now) (callers_of c.work_all.new.workers) c.work_all.new.outcomes
    c.requires.callers c.work_all.ensures.did)

pub returns-clause-callers : goal.returns-clause-callers
returns-clause-callers g c =
    met_callers c.args.board.now (callers_of c.work_all.new.workers) (callers_of c.meet.new.workers)
    (worked_callers c.args.board.now c.args.files.now c.args.budget c.args.group.now.jobs (callers_of c.args.workers.now) (callers_of c.work_all.new.workers) c.work_all.new.outcomes
    c.requires.callers c.work_all.ensures.did) c.meet.ensures.after

pub returns-clause-done : goal.returns-clause-done
returns-clause-done g c =
    let b = c.args.board.now in
    let os = c.work_all.new.outcomes in
    let n = c.in_ok-outcomes.outcomes.len in
    let all : n ≡ length os = omega arith in
    λ number.
    group_done b c.args.files.now c.args.budget number c.args.group.now c.args.workers.now c.work_all.new.workers c.meet.new.workers os c.in_ok-blocks.blocks.items c.shape.ensures.limits
    c.requires.callers c.work_all.ensures.did (all_whole c.deref.result.now os _ n c.deref.ensures.value all (c.if-not-are_whole.ensures refl)) c.meet.ensures.after
    (all_merged b.shape c.shape.result c.args.group.now.jobs c.in_ok-blocks.blocks.items c.deref_mut-2.result.now os _ n c.deref_mut-2.ensures.value all c.shape.ensures.value
    c.in_ok-blocks.ensures)

pub returns-then-not-are_whole-clause-gates_broken : goal.returns-then-not-are_whole-clause-gates_broken
returns-then-not-are_whole-clause-gates_broken g c =
    gates_front g.G.Gate.passed c.args.board.now c.args.files.now c.args.budget c.args.group.now.jobs c.args.workers.now c.work_all.new.workers c.work_all.new.outcomes
    c.requires.callers c.work_all.ensures.did c.work_all.ensures.gates

pub returns-in_err-blocks-clause-gates_broken : goal.returns-in_err-blocks-clause-gates_broken
returns-in_err-blocks-clause-gates_broken g c =
    on_err c.from_residual-in_err-blocks.result
    (gates_front g.G.Gate.passed c.args.board.now c.args.files.now c.args.budget c.args.group.now.jobs c.args.workers.now c.work_all.new.workers c.work_all.new.outcomes
    c.requires.callers c.work_all.ensures.did c.work_all.ensures.gates)

pub returns-clause-gates : goal.returns-clause-gates
returns-clause-gates g c =
    let os = c.work_all.new.outcomes in
    let n = c.in_ok-outcomes.outcomes.len in
    let all : n ≡ length os = omega arith in
    gates_whole g.G.Gate.passed c.args.board.now c.args.files.now c.args.budget c.args.group.now.jobs c.args.workers.now c.work_all.new.workers c.meet.new.workers os
    c.requires.callers c.work_all.ensures.did c.work_all.ensures.gates (all_whole c.deref.result.now os _ n c.deref.ensures.value all (c.if-not-are_whole.ensures refl)) c.meet.ensures.gates

pub returns-in_err-outcomes-clause-gates_broken : goal.returns-in_err-outcomes-clause-gates_broken
returns-in_err-outcomes-clause-gates_broken g c =
    on_err c.from_residual.result
    (gates_before g.G.Gate.passed c.args.board.now.shape c.args.group.now.jobs c.args.workers.now)

pub returns-clause-pruned : goal.returns-clause-pruned
returns-clause-pruned g c =
    let b = c.args.board.now in
    let os = c.work_all.new.outcomes in
    let n = c.in_ok-outcomes.outcomes.len in
    let all : n ≡ length os = omega arith in
    group_prunes b c.args.files.now c.args.budget c.args.group.now c.args.workers.now c.work_all.new.workers c.meet.new.workers os c.shape.ensures.limits c.requires.callers
    (met_callers b (callers_of c.work_all.new.workers) (callers_of c.meet.new.workers)
    (worked_callers b c.args.files.now c.args.budget c.args.group.now.jobs (callers_of c.args.workers.now) (callers_of c.work_all.new.workers) os c.requires.callers c.work_all.ensures.did) c.meet.ensures.after)
    c.work_all.ensures.did (all_whole c.deref.result.now os _ n c.deref.ensures.value all (c.if-not-are_whole.ensures refl)) c.meet.ensures.after

pub returns-clause-read : goal.returns-clause-read
returns-clause-read g c =
    let b = c.args.board.now in
    let os = c.work_all.new.outcomes in
    let n = c.in_ok-outcomes.outcomes.len in
    let all : n ≡ length os = omega arith in
    group_reads b c.args.files.now c.args.budget c.args.group.now c.args.workers.now c.work_all.new.workers
    c.meet.new.workers os c.shape.ensures.limits c.requires.callers
    (met_callers b (callers_of c.work_all.new.workers) (callers_of c.meet.new.workers)
    (worked_callers b c.args.files.now c.args.budget c.args.group.now.jobs (callers_of c.args.workers.now)
    (callers_of c.work_all.new.workers) os c.requires.callers c.work_all.ensures.did) c.meet.ensures.after)
    c.work_all.ensures.did (all_whole c.deref.result.now os _ n c.deref.ensures.value all
    (c.if-not-are_whole.ensures refl)) c.meet.ensures.after
