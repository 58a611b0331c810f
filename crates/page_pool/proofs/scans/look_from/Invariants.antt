use Rattle.page_pool.specs.Taking.{AreBetween, HasLooked}
use Rattle.page_pool.proofs.scans.look_from.Given as goal

abbrev pub invariant-loop-page : goal.invariant-loop-page
invariant-loop-page l = HasLooked (AreBetween l.from l.page) l.low l.from l.page l.fn.caller l.caller
