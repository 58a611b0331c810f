use Rattle.std.proofs.Common.{arith}
use Rattle.env_code.proofs.Steps.{IsLater-itself, IsLater-trans, IsWidened-start, IsWidened-more, IsLevel-more, IsWidened-all}
use Rattle.env_code.proofs.walk.Walk.widen.Goals as goal

pub loop-index-init : goal.loop-index-init
loop-index-init c = record { walk = c.requires.walk; later = IsLater-itself _; widened = IsWidened-start _ _ _ }

pub explore-requires-clause-within : goal.explore-requires-clause-within
explore-requires-clause-within c = omega (arith, c.loop-index.invariant.later.more)

pub loop-index-preserved : goal.loop-index-preserved
loop-index-preserved c = record {
  walk = c.explore.ensures.walk;
  later = IsLater-trans _ _ _ c.loop-index.invariant.later c.explore.ensures.later;
  widened = IsWidened-more _ _ _ _ _ _ c.loop-index.invariant.later c.loop-index.invariant.widened (omega arith) c.loop-index-test.true c.explore.ensures.later c.explore.ensures.explored c.explore.ensures.spread;
}

pub returns-clause-level : goal.returns-clause-level
returns-clause-level c x k level = IsLevel-more c.args.graph.now c.args.lanes.now c.args.self.now c.loop-index.self x k c.args.head c.requires.walk c.loop-index.invariant.later (IsWidened-all _ _ _ _ _ _ c.loop-index.invariant.widened c.loop-index-test.false) level
