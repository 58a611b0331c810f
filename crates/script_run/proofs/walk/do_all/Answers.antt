use Rattle.std.proofs.Common.{◌+◌, ◌∙◌, true, false, drop, subst, sym, ap}
use Rattle.board_jobs.proofs.Chained.{on_err}
use Rattle.script_run.proofs.Walks.{Walked, walked_after, walked_all, walked_in, walked_none, walked_other, walked_own, order_of}
use Rattle.script_run.proofs.Passing.{OnTheWay, own_asked, way_after, way_all, way_none, way_other, way_own, way_stopped}
use Rattle.script_run.proofs.walk.do_all.Goals as goal
use Rattle.script_run.proofs.walk.do_all.Goals.{then-is_own+in_ok-block+in_ok-push_back, else-is_own}

pub loop-job-init : goal.loop-job-init
loop-job-init g c = record {
  walked = walked_none c.args.board.now c.args.files.now c.args.budget c.as_slice-jobs.result.now c.args.worker.now.caller c.args.blocks.now.items c.requires.worker.can c.requires.none;
  gate = way_none c.args.board.now.shape c.as_slice-jobs.result.now c.args.worker.now.caller.account.who (g.G.Gate.passed c.args.worker.now.gate);
}

pub do_own-requires-clause-order : goal.do_own-requires-clause-order
do_own-requires-clause-order g c =
    order_of c.shape-shape.result c.loop-job.count.loads c.loop-job.count.searches c.job-item.result.order c.loop-job.worker.caller c.requires.worker.caller
    (c.requires.worker.who ∙ sym c.loop-job.invariant.walked.who) c.if-is_own.ensures

pub loop-job-preserved : goal.loop-job-preserved
loop-job-preserved g c = elim c.if-is_own.branch [
  | then-is_own+in_ok-block+in_ok-push_back w ↦
      let b = c.args.board.now in
      let all = c.as_slice-jobs.result.now in
      let first = c.args.worker.now.caller.account in
      let after = c.counted-count.result in
      let tells = g.G.Gate.passed in
      let before = tells c.args.worker.now.gate in
      let same = c.loop-job.invariant.walked.who in
      record {
        walked =
            subst (λ x. Walked b c.args.files.now c.args.budget all first x.caller after.loads after.searches (c.loop-job.job-index + 1) c.if-is_own.blocks.items) (sym w.worker-is)
            (walked_own b c.args.files.now c.args.budget all first c.loop-job.worker.caller w.do_own.new.worker.caller c.loop-job.count.loads c.loop-job.count.searches after.loads after.searches
            c.loop-job.job-index c.job-item.result c.loop-job.blocks.items c.if-is_own.blocks.items w.in_ok-block.block c.shape-shape.result
            c.shape-shape.ensures.value c.loop-job-test.true c.job-item.is w.if-is_own.ensures
            w.do_own.ensures.can w.do_own.ensures.who w.in_ok-block.ensures.done
            c.counted-count.ensures.loads c.counted-count.ensures.searches (ap (λ x. x.items) w.blocks-is ∙ w.in_ok-push_back.ensures.items) c.loop-job.invariant.walked);
        gate =
            subst (λ x. OnTheWay b.shape all first.who before after.loads after.searches (drop (c.loop-job.job-index + 1) all) (tells x.gate)) (sym w.worker-is)
            (way_own b.shape all first.who before (tells c.loop-job.worker.gate) (tells w.do_own.new.worker.gate) c.loop-job.count.loads c.loop-job.count.searches after.loads after.searches
            c.loop-job.job-index c.job-item.result c.loop-job-test.true c.job-item.is
            (own_asked b.shape c.shape-shape.result c.loop-job.count.loads c.loop-job.count.searches c.job-item.result.order first.who c.loop-job.worker.caller.account.who true c.shape-shape.ensures.value same w.if-is_own.ensures)
            (λ x mine. w.in_ok-block.ensures.passed x (mine ∙ sym same))
            c.counted-count.ensures.loads c.counted-count.ensures.searches c.loop-job.invariant.gate);
      }
  | else-is_own w ↦
      let b = c.args.board.now in
      let all = c.as_slice-jobs.result.now in
      let first = c.args.worker.now.caller.account in
      let after = c.counted-count.result in
      let tells = g.G.Gate.passed in
      let before = tells c.args.worker.now.gate in
      record {
        walked =
            subst (λ x. Walked b c.args.files.now c.args.budget all first x.caller after.loads after.searches (c.loop-job.job-index + 1) c.if-is_own.blocks.items) (sym w.worker-is)
            (subst (λ x. Walked b c.args.files.now c.args.budget all first c.loop-job.worker.caller after.loads after.searches (c.loop-job.job-index + 1) x.items) (sym w.blocks-is)
            (walked_other b c.args.files.now c.args.budget all first c.loop-job.worker.caller c.loop-job.count.loads c.loop-job.count.searches after.loads after.searches
            c.loop-job.job-index c.job-item.result c.loop-job.blocks.items c.shape-shape.result
            c.shape-shape.ensures.value c.loop-job-test.true c.job-item.is w.if-is_own.ensures
            c.counted-count.ensures.loads c.counted-count.ensures.searches c.loop-job.invariant.walked));
        gate =
            subst (λ x. OnTheWay b.shape all first.who before after.loads after.searches (drop (c.loop-job.job-index + 1) all) (tells x.gate)) (sym w.worker-is)
            (way_other b.shape all first.who before (tells c.loop-job.worker.gate) c.loop-job.count.loads c.loop-job.count.searches after.loads after.searches
            c.loop-job.job-index c.job-item.result c.loop-job-test.true c.job-item.is
            (own_asked b.shape c.shape-shape.result c.loop-job.count.loads c.loop-job.count.searches c.job-item.result.order first.who c.loop-job.worker.caller.account.who false c.shape-shape.ensures.value c.loop-job.invariant.walked.who w.if-is_own.ensures)
            c.counted-count.ensures.loads c.counted-count.ensures.searches c.loop-job.invariant.gate);
      }
]

pub returns-clause-done : goal.returns-clause-done
returns-clause-done g c =
    walked_all c.args.board.now c.args.files.now c.args.budget c.as_slice-jobs.result.now c.args.group.now.jobs c.args.worker.now.caller.account c.loop-job.worker.caller
    c.loop-job.count.loads c.loop-job.count.searches c.loop-job.job-index c.loop-job.blocks.items c.loop-job-test.false c.as_slice-jobs.ensures c.loop-job.invariant.walked

pub returns-in_err-block-clause-broken : goal.returns-in_err-block-clause-broken
returns-in_err-block-clause-broken g c =
    on_err c.from_residual.result
    (walked_in c.args.board.now c.args.files.now c.args.budget c.as_slice-jobs.result.now c.args.group.now.jobs c.args.worker.now.caller.account c.loop-job.worker.caller c.do_own.new.worker.caller
    c.loop-job.count.loads c.loop-job.count.searches c.loop-job.job-index c.job-item.result c.loop-job.blocks.items c.shape-shape.result
    c.shape-shape.ensures.value c.loop-job-test.true c.job-item.is c.if-is_own.ensures c.in_err-block.ensures.broken c.as_slice-jobs.ensures c.loop-job.invariant.walked)

pub returns-in_err-push_back-clause-broken : goal.returns-in_err-push_back-clause-broken
returns-in_err-push_back-clause-broken g c =
    on_err c.from_residual-in_err-push_back.result
    (walked_after c.args.board.now c.args.files.now c.args.budget c.as_slice-jobs.result.now c.args.group.now.jobs c.args.worker.now.caller.account c.loop-job.worker.caller c.do_own.new.worker.caller
    c.loop-job.count.loads c.loop-job.count.searches c.loop-job.job-index c.job-item.result c.loop-job.blocks.items c.in_ok-block.block c.shape-shape.result
    c.shape-shape.ensures.value c.loop-job-test.true c.job-item.is c.if-is_own.ensures c.in_ok-block.ensures.done c.as_slice-jobs.ensures c.loop-job.invariant.walked)

pub returns-clause-passed : goal.returns-clause-passed
returns-clause-passed g c =
    let tells = g.G.Gate.passed in
    let all = c.as_slice-jobs.result.now in
    let gate = c.loop-job.worker.gate in
    way_all c.args.board.now.shape all c.args.group.now.jobs c.args.worker.now.caller.account.who (tells c.args.worker.now.gate) (tells gate)
    c.loop-job.count.loads c.loop-job.count.searches c.loop-job.job-index c.loop-job-test.false c.as_slice-jobs.ensures c.loop-job.invariant.gate

pub returns-in_err-block-clause-stopped : goal.returns-in_err-block-clause-stopped
returns-in_err-block-clause-stopped g c =
    let tells = g.G.Gate.passed in
    let same = c.loop-job.invariant.walked.who in
    on_err c.from_residual.result
    (way_stopped c.args.board.now.shape c.as_slice-jobs.result.now c.args.group.now.jobs c.args.worker.now.caller.account.who (tells c.args.worker.now.gate) (tells c.loop-job.worker.gate)
    (tells c.do_own.new.worker.gate) c.loop-job.count.loads c.loop-job.count.searches c.loop-job.job-index c.job-item.result c.loop-job-test.true c.job-item.is c.as_slice-jobs.ensures
    (own_asked c.args.board.now.shape c.shape-shape.result c.loop-job.count.loads c.loop-job.count.searches c.job-item.result.order c.args.worker.now.caller.account.who
    c.loop-job.worker.caller.account.who true c.shape-shape.ensures.value c.loop-job.invariant.walked.who c.if-is_own.ensures)
    (λ x mine. c.in_err-block.ensures.stopped x (mine ∙ sym same)) c.loop-job.invariant.gate)

pub returns-in_err-push_back-clause-stopped : goal.returns-in_err-push_back-clause-stopped
returns-in_err-push_back-clause-stopped g c =
    let tells = g.G.Gate.passed in
    let same = c.loop-job.invariant.walked.who in
    on_err c.from_residual-in_err-push_back.result
    (way_after c.args.board.now.shape c.as_slice-jobs.result.now c.args.group.now.jobs c.args.worker.now.caller.account.who (tells c.args.worker.now.gate) (tells c.loop-job.worker.gate)
    (tells c.do_own.new.worker.gate) c.loop-job.count.loads c.loop-job.count.searches c.loop-job.job-index c.job-item.result c.loop-job-test.true c.job-item.is c.as_slice-jobs.ensures
    (own_asked c.args.board.now.shape c.shape-shape.result c.loop-job.count.loads c.loop-job.count.searches c.job-item.result.order c.args.worker.now.caller.account.who
    c.loop-job.worker.caller.account.who true c.shape-shape.ensures.value c.loop-job.invariant.walked.who c.if-is_own.ensures)
    (λ x mine. c.in_ok-block.ensures.passed x (mine ∙ sym same)) c.loop-job.invariant.gate)
