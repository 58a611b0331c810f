use Rattle.std.proofs.Common.{rules, ◌++◌, take, drop, suc, sym, subst}
use Rattle.std.proofs.lemmas.Result.{err_from_is_err_and}
use Rattle.script_text.specs.declared.script.Job.{Job}
use Rattle.std.specs.Prelude.{All}
use Rattle.std.proofs.Common.{List}
use Rattle.command_ends.specs.RunText.{CanBeRead, files_named, jobs_of}
use Rattle.command_ends.specs.Ends.{seen}
use Rattle.script_files.specs.JobFiles.{HaveFiles}
use Rattle.script_files.proofs.JobFiles.{groups_around, groups_next, stops_in_group, were_read_next}
use Rattle.script_files.proofs.Rising.{front_jobs_rise}
use Rattle.script_files.proofs.files.read_all_files.Goals as goal

pub returns-in_err-add_files-clause-stop : goal.returns-in_err-add_files-clause-stop
returns-in_err-add_files-clause-stop g c =
    let p = err_from_is_err_and c.from_residual.result c.from_residual.ensures.1 in
    let before = seen g.F.Shelf.told g.F.Shelf.absent g.F.Shelf.faults c.args.shelf.now in
    let middle = seen g.F.Shelf.told g.F.Shelf.absent g.F.Shelf.faults c.loop-group.shelf in
    let now = seen g.F.Shelf.told g.F.Shelf.absent g.F.Shelf.faults c.add_files.new.shelf in
    let groups = c.args.groups.now in
    let index = c.loop-group.group-index in
    let group = c.group-item.result in
    let invariant = c.loop-group.invariant in
    let stops = rw c.as_slice.ensures at c.in_err-add_files.ensures.stop in
    rw (p.1, p.2)
    (stops_in_group before middle now groups index group _ c.loop-group-test.true c.group-item.is invariant.goes_on invariant.were_read stops)

pub loop-group-preserved : goal.loop-group-preserved
loop-group-preserved g c =
    let told = g.F.Shelf.told c.args.shelf.now in
    let groups = c.args.groups.now in
    let index = c.loop-group.group-index in
    let group = c.group-item.result in
    let invariant = c.loop-group.invariant in
    let on = c.loop-group.invariant.goes_on in
    let front : List Job = jobs_of (take index groups) in
    let rises = front_jobs_rise (jobs_of groups) (front ++ group.jobs) (jobs_of (drop (suc index) groups)) (groups_around groups index group c.loop-group-test.true c.group-item.is) c.requires in
    let added = rw c.as_slice.ensures at c.in_ok-add_files.ensures.have front in
    let have = added rises (subst (λ t. HaveFiles t c.loop-group.files front) (sym on.told) invariant.have) in
    record {
      goes_on = search rules;
      have = subst (HaveFiles told c.add_files.new.files) (sym (groups_next groups index group c.loop-group-test.true c.group-item.is))
          (subst (λ t. HaveFiles t c.add_files.new.files (front ++ group.jobs)) on.told have);
      were_read = were_read_next told groups index group c.loop-group-test.true c.group-item.is invariant.were_read
          (subst (λ t. All (CanBeRead t) (files_named group.jobs)) on.told (rw c.as_slice.ensures at c.in_ok-add_files.ensures.read));
    }
