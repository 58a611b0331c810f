use Rattle.std.proofs.Common.{rules}
use Rattle.script_run.specs.Walking.{IsWorker}
use Rattle.script_run.proofs.Passing.{passed_halves, passed_one}
use Rattle.script_run.proofs.Walks.{all_halves, all_one, both_halves, first_has}
use Rattle.script_run.proofs.walk.+fn-work_halves-join_mut+arg2+fn-work_halves-join_mut+arg3+work_halves.Goals as goal

pub work-requires-clause-worker : goal.work-requires-clause-worker
work-requires-clause-worker g t c = first_has (λ w. w.caller) (IsWorker c.args.board.now) c.args.workers.now c.in-Some-Some.worker.now c.requires.workers c.in-Some-Some.ensures.item.0 c.in-Some-Some.ensures.item.1

pub returns-in-Some-Some-clause-did : goal.returns-in-Some-Some-clause-did
returns-in-Some-Some-clause-did g t c = all_one (λ w. w.caller) _ _ _ _ _ _ _ _ _ c.if-workers-lt2.true c.requires.count c.in-Some-Some.ensures.item.1 c.work.ensures.did

pub returns-in-Some-Some-clause-gates : goal.returns-in-Some-Some-clause-gates
returns-in-Some-Some-clause-gates g t c = passed_one g.G.Gate.passed c.args.board.now.shape c.args.group.now.jobs _ _ _ _ _ c.if-workers-lt2.true c.requires.count c.in-Some-Some.ensures.item.1 c.work.ensures.gate

pub work_halves-requires-clause-workers : goal.work_halves-requires-clause-workers
work_halves-requires-clause-workers g t c =
    let halves = c.split_at_mut-front.result in
    let both = both_halves (λ w. w.caller) (λ x. IsWorker c.args.board.now x) c.args.workers.now halves.0.now halves.1.now c.split_at_mut-front.ensures.value c.requires.workers in
    search rules

pub work_halves-requires-then-are_idle-clause-workers : goal.work_halves-requires-then-are_idle-clause-workers
work_halves-requires-then-are_idle-clause-workers g t c =
    let halves = c.split_at_mut-front.result in
    let both = both_halves (λ w. w.caller) (λ x. IsWorker c.args.board.now x) c.args.workers.now halves.0.now halves.1.now c.split_at_mut-front.ensures.value c.requires.workers in
    search rules

pub returns-then-are_idle-clause-did : goal.returns-then-are_idle-clause-did
returns-then-are_idle-clause-did g t c = search (rules, all_halves)

pub returns-then-are_idle-clause-gates : goal.returns-then-are_idle-clause-gates
returns-then-are_idle-clause-gates g t c = search (rules, passed_halves)

pub join_mut-requires-after_bounds : goal.join_mut-requires-after_bounds
join_mut-requires-after_bounds g t c κs within =
    let halves = c.split_at_mut-front.result in
    let both = both_halves (λ w. w.caller) (λ x. IsWorker c.args.board.now x) c.args.workers.now halves.0.now halves.1.now c.split_at_mut-front.ensures.value c.requires.workers in
    search rules

pub returns-clause-did : goal.returns-clause-did
returns-clause-did g t c = search (rules, all_halves)

pub returns-clause-gates : goal.returns-clause-gates
returns-clause-gates g t c = search (rules, passed_halves)
