use Rattle.std.proofs.Common.{arith}
use Rattle.script_run.proofs.Merges.{counts_few, merge_all, merge_next}
use Rattle.script_run.proofs.merge.merge.Goals as goal

pub loop-job-preserved : goal.loop-job-preserved
loop-job-preserved c =
    let k = c.args.shape in
    let before = c.loop-job.count in
    let after = c.counted-count.result in
    let o = c.index-outcomes-place.result in
    record {
      few = omega (arith, c.loop-job.invariant.few, c.counted-count.ensures.loads, c.counted-count.ensures.searches, counts_few c.job-item.result.order);
      whole = merge_next k before.loads before.searches after.loads after.searches c.as_slice-jobs.result.now c.loop-job.job-index c.job-item.result _ c.loop-job.blocks.items c.take_next.new.blocks.items
          c.loop-job.outcomes c.place_for-place.result o c.take_next.new.outcome
          c.loop-job-test.true c.job-item.is c.place_for-place.ensures.at (omega (arith, c.place_for-place.ensures.within, c.requires.count, c.loop-job.auto.outcomes))
          c.counted-count.ensures.loads c.counted-count.ensures.searches c.take_next.ensures.rest c.in_ok-take_next.ensures.taken c.loop-job.invariant.whole;
    }

pub returns : goal.returns
returns c =
    merge_all c.args.shape c.loop-job.count.loads c.loop-job.count.searches c.as_slice-jobs.result.now c.args.group.now.jobs c.loop-job.job-index c.loop-job.blocks.items c.args.outcomes.now c.loop-job.outcomes
    c.loop-job-test.false c.as_slice-jobs.ensures c.requires.queues c.loop-job.invariant.whole
