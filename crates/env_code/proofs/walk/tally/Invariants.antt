use Rattle.env_code.proofs.Lanes.{AreDone}
use Rattle.env_code.proofs.walk.tally.Given as goal

abbrev pub invariant-loop-lane : goal.invariant-loop-lane
invariant-loop-lane l = AreDone l.lanes l.initial.counts l.counts l.lane
