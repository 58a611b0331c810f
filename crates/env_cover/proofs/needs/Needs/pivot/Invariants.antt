use Rattle.env_cover.proofs.Pivots.{IsBest}
use Rattle.env_cover.proofs.needs.Needs.pivot.Given as goal

abbrev pub invariant-loop-atom : goal.invariant-loop-atom
invariant-loop-atom l = IsBest l.self l.pivot l.greatest l.atom
