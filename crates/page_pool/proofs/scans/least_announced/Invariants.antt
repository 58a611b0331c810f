use Rattle.page_pool.proofs.Passing.{IsPassing}
use Rattle.page_pool.proofs.scans.least_announced.Given as goal

abbrev pub invariant-loop-index : goal.invariant-loop-index
invariant-loop-index l = IsPassing l.index l.low l.fn.caller l.caller
