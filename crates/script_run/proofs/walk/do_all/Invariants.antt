use Rattle.std.proofs.Common.{drop}
use Rattle.script_run.proofs.Passing.{OnTheWay}
use Rattle.script_run.proofs.Walks.{Walked}
use Rattle.script_run.proofs.walk.do_all.Given as goal

abbrev pub invariant-loop-job : goal.invariant-loop-job
invariant-loop-job g l = record {
  walked : Walked l.board l.files l.budget l.jobs l.fn.worker.caller.account l.worker.caller l.count.loads l.count.searches l.job-index l.blocks.items;
  gate : OnTheWay l.board.shape l.jobs l.fn.worker.caller.account.who (g.G.Gate.passed l.fn.worker.gate) l.count.loads l.count.searches (drop l.job-index l.jobs)
      (g.G.Gate.passed l.worker.gate);
}
