use Rattle.std.proofs.Common.{◌+◌, List, sym, subst, take}
use Rattle.std.specs.List.{AllZip}
use Rattle.told_history.proofs.Zips.{zip_more}
use Rattle.told_history.specs.declared.reads.JobRead.{JobRead}
use Rattle.told_history.specs.Reads.{IsReadOf}
use Rattle.told_history.proofs.reads.read_jobs.Goals as goal

pub loop-laid-preserved : goal.loop-laid-preserved
loop-laid-preserved c =
    subst (λ (l : List JobRead). AllZip (IsReadOf c.args.files.now) (take (c.loop-laid.laid-index + 1) c.args.jobs.now) l) (sym c.in_ok-push.ensures.items)
    (zip_more (IsReadOf c.args.files.now) c.args.jobs.now c.loop-laid.reads.items c.loop-laid.laid-index c.laid-item.result c.in_ok-read_job.field-0 c.loop-laid-test.true c.laid-item.is
    c.loop-laid.invariant c.in_ok-read_job.ensures)
