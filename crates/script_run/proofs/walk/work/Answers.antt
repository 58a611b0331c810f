use Rattle.script_run.specs.Walking.{Broke, DidJobs}
use Rattle.script_run.specs.Passing.{PassedFront, PassedOwn}
use Rattle.script_run.proofs.Walks.{by_result}
use Rattle.script_run.proofs.walk.work.Goals as goal

pub returns-clause-did : goal.returns-clause-did
returns-clause-did g c =
    let k = c.args.board.now.shape in
    let before = c.args.worker.now.caller.account in
    let after = c.do_all-done.new.worker.caller.account in
    record {
      can = c.do_all-done.ensures.can;
      who = c.do_all-done.ensures.who;
      did = by_result (DidJobs k c.args.files.now c.args.budget c.args.group.now.jobs before after c.do_all-done.new.blocks.items) (Broke k c.args.files.now c.args.budget c.args.group.now.jobs before after)
          c.do_all-done.result c.is_ok.result c.is_ok.ensures.value c.do_all-done.ensures.done c.do_all-done.ensures.broken;
    }

pub returns-clause-gate : goal.returns-clause-gate
returns-clause-gate g c =
    let k = c.args.board.now.shape in
    let jobs = c.args.group.now.jobs in
    let who = c.args.worker.now.caller.account.who in
    let before = g.G.Gate.passed c.args.worker.now.gate in
    let after = g.G.Gate.passed c.do_all-done.new.worker.gate in
    by_result (PassedOwn k jobs who before after) (PassedFront k jobs who before after)
    c.do_all-done.result c.is_ok.result c.is_ok.ensures.value c.do_all-done.ensures.passed c.do_all-done.ensures.stopped
