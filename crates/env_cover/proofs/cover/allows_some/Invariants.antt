use Rattle.env_cover.proofs.AtomCover.{AllowsNone}
use Rattle.env_cover.proofs.cover.allows_some.Given as goal

abbrev pub invariant-loop-atom : goal.invariant-loop-atom
invariant-loop-atom l = AllowsNone l.need l.atom-items l.atom-index
