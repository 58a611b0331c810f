use Rattle.ring_bonds.proofs.Molecules.{AreSet}
use Rattle.ring_bonds.proofs.marker.RingMarker.mark.Given as goal

abbrev pub invariant-loop-bond : goal.invariant-loop-bond
invariant-loop-bond l = AreSet l.fn.mol l.mol l.self-inside.marking.flags l.bond
