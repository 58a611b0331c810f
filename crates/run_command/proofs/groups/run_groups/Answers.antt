use Rattle.std.proofs.Common.{rules}
use Rattle.std.proofs.lemmas.Result.{err_from_is_err_and}
use Rattle.script_run.specs.Workers.{accounts_of}
use Rattle.command_ends.specs.Ends.{seen}
use Rattle.run_command.proofs.Running.{all_done, done_in_loop, none_done, stops_in_loop}
use Rattle.run_command.proofs.groups.run_groups.Goals as goal

pub loop-group-init : goal.loop-group-init
loop-group-init g c = record {
  callers = c.requires.callers;
  goes_on = search rules;
  done = λ script read. none_done (g.F.Shelf.told c.args.shelf.now) c.args.board.now.shape c.args.budget (accounts_of c.args.workers.now) c.args.text.now.items c.requires.new c.requires.empty (search rules);
}

pub returns-in_err-do_group-clause-stop : goal.returns-in_err-do_group-clause-stop
returns-in_err-do_group-clause-stop g c =
    let p = err_from_is_err_and c.from_residual.result c.from_residual.ensures.1 in
    let before = seen g.F.Shelf.told g.F.Shelf.absent g.F.Shelf.faults c.args.shelf.now in
    let middle = seen g.F.Shelf.told g.F.Shelf.absent g.F.Shelf.faults c.loop-group.shelf in
    let now = seen g.F.Shelf.told g.F.Shelf.absent g.F.Shelf.faults c.do_group.new.shelf in
    let invariant = c.loop-group.invariant in
    rw (p.1, p.2)
    (λ history end script read.
    stops_in_loop before middle now script c.args.groups.now c.loop-group.group-index c.group-item.result c.args.board.now.shape c.args.budget (accounts_of c.loop-group.workers) (accounts_of c.do_group.new.workers) history c.loop-group.text.items c.do_group.new.text.items _ c.loop-group-test.true c.group-item.is invariant.goes_on
    c.in_err-do_group.ensures.stop end read (invariant.done script read))

pub loop-group-preserved : goal.loop-group-preserved
loop-group-preserved g c =
    let before = seen g.F.Shelf.told g.F.Shelf.absent g.F.Shelf.faults c.args.shelf.now in
    let middle = seen g.F.Shelf.told g.F.Shelf.absent g.F.Shelf.faults c.loop-group.shelf in
    let invariant = c.loop-group.invariant in
    record {
      callers = c.do_group.ensures.callers;
      goes_on = search rules;
      done = λ script read.
          done_in_loop before middle script c.args.groups.now c.loop-group.group-index c.group-item.result c.args.board.now.shape c.args.budget (accounts_of c.loop-group.workers) (accounts_of c.do_group.new.workers) c.loop-group.text.items c.do_group.new.text.items c.loop-group-test.true c.group-item.is invariant.goes_on
          c.in_ok-do_group.ensures.done read (invariant.done script read);
    }

pub returns-clause-done : goal.returns-clause-done
returns-clause-done g c =
    λ script read.
    all_done (g.F.Shelf.told c.args.shelf.now) c.args.groups.now c.loop-group.group-index c.args.board.now.shape c.args.budget (accounts_of c.loop-group.workers) c.loop-group.text.items (search rules) (c.loop-group.invariant.done script read)
