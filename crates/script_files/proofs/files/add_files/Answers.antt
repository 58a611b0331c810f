use Rattle.std.proofs.Common.{rules, List, [], ◌∷◌, ◌++◌, take, sym, subst, arith}
use Rattle.std.specs.Prelude.{All}
use Rattle.std.proofs.lemmas.List.{take_all}
use Rattle.std.proofs.lemmas.Result.{err_from_is_err_and}
use Rattle.script_text.specs.declared.script.Job.{Job}
use Rattle.command_ends.specs.RunText.{CanBeRead, file_named, files_named}
use Rattle.command_ends.specs.Ends.{seen}
use Rattle.script_files.specs.JobFiles.{HaveFiles}
use Rattle.script_files.proofs.JobFiles.{have_next, stops_among, were_read_more}
use Rattle.script_files.proofs.Rising.{after_those_among}
use Rattle.script_files.proofs.files.add_files.Goals as goal

pub returns-in_err-read_file_of-clause-stop : goal.returns-in_err-read_file_of-clause-stop
returns-in_err-read_file_of-clause-stop g c =
    let p = err_from_is_err_and c.from_residual.result c.from_residual.ensures.1 in
    let before = seen g.F.Shelf.told g.F.Shelf.absent g.F.Shelf.faults c.args.shelf.now in
    let middle = seen g.F.Shelf.told g.F.Shelf.absent g.F.Shelf.faults c.loop-job.shelf in
    let now = seen g.F.Shelf.told g.F.Shelf.absent g.F.Shelf.faults c.read_file_of.new.shelf in
    let invariant = c.loop-job.invariant in
    rw (p.1, p.2)
    (stops_among before middle now c.args.jobs.now c.loop-job.job-index c.job-item.result _ c.loop-job-test.true c.job-item.is invariant.goes_on invariant.were_read c.in_err-read_file_of.ensures.stop)

pub loop-job-preserved : goal.loop-job-preserved
loop-job-preserved g c =
    let told = g.F.Shelf.told c.args.shelf.now in
    let jobs = c.args.jobs.now in
    let index = c.loop-job.job-index in
    let job = c.job-item.result in
    let invariant = c.loop-job.invariant in
    let on = c.loop-job.invariant.goes_on in
    record {
      goes_on = search rules;
      have = λ before rises was.
          let earlier = before ++ take index jobs in
          let held = invariant.have before rises was in
          let after = after_those_among before jobs rises index job c.loop-job-test.true c.job-item.is in
          let have = c.in_ok-read_file_of.ensures.have earlier after (subst (λ t. HaveFiles t c.loop-job.files earlier) (sym on.told) held) in
          have_next told c.read_file_of.new.files before jobs index job c.loop-job-test.true c.job-item.is
          (subst (λ t. HaveFiles t c.read_file_of.new.files (earlier ++ job ∷ [])) on.told have);
      were_read = were_read_more told jobs index job c.loop-job-test.true c.job-item.is invariant.were_read
          (subst (λ t. All (CanBeRead t) (file_named job.order)) on.told c.in_ok-read_file_of.ensures.read);
    }

pub returns-clause-read : goal.returns-clause-read
returns-clause-read g c =
    subst (λ (l : List Job). All (CanBeRead (g.F.Shelf.told c.args.shelf.now)) (files_named l))
    (take_all c.loop-job.job-index c.args.jobs.now (omega (arith, c.loop-job.auto.job-index-end, c.loop-job-test.false))) c.loop-job.invariant.were_read
