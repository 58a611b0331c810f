use Rattle.std.proofs.Common.{All, subst}
use Rattle.std.proofs.lemmas.List.{take_all}
use Rattle.std.proofs.lemmas.List.Elements.{All-more}
use Rattle.script_text.specs.declared.script.Job.{Job}
use Rattle.board_jobs.specs.Jobs.{IsThere}
use Rattle.board_tests.proofs.files.files_of.Goals as goal

pub loop-job-preserved : goal.loop-job-preserved
loop-job-preserved c =
    All-more (λ (job : Job). IsThere c.put_file.new.files job.line job.order) c.args.jobs.now c.loop-job.job-index c.job-item.result c.loop-job-test.true
    (λ k d below. c.in_ok-put_file.ensures.still _ _ (c.loop-job.invariant k d below))
    (subst (λ (job : Job). IsThere c.put_file.new.files job.line job.order) c.job-item.is c.in_ok-put_file.ensures.there)

pub returns : goal.returns
returns c = subst (All (λ (job : Job). IsThere c.loop-job.files job.line job.order)) (take_all c.loop-job.job-index c.args.jobs.now c.loop-job-test.false) c.loop-job.invariant
