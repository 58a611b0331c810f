use Rattle.env_code.proofs.Steps.{IsExploring}
use Rattle.env_code.proofs.walk.Walk.explore.Given as goal

abbrev pub invariant-loop-link : goal.invariant-loop-link
invariant-loop-link l = IsExploring l.graph l.lanes l.fn.self l.self l.place l.link

abbrev pub decreases-loop-link : goal.decreases-loop-link
decreases-loop-link l = l.link
