use Rattle.std.proofs.Common.{◌<◌, ◌≤◌, length, ap, arith}
use Rattle.ring_bonds.proofs.Molecules.{AreSet-more, AreSet-length, IsMarked-of}
use Rattle.ring_bonds.proofs.marker.RingMarker.mark.Goals as goal

pub loop-bond-preserved : goal.loop-bond-preserved
loop-bond-preserved c =
    let within : c.loop-bond.bond < length c.loop-bond.mol.bonds = omega (arith, AreSet-length _ _ _ _ c.loop-bond.invariant, ap length c.bonds-bond-end.ensures.items) in
    AreSet-more _ _ _ _ _ c.loop-bond.invariant within c.set_ring.ensures

pub returns-clause-marked : goal.returns-clause-marked
returns-clause-marked c =
    let all : length c.args.mol.now.bonds ≤ c.loop-bond.bond = omega (arith, ap length c.bonds-bond-end.ensures.items) in
    IsMarked-of _ _ _ _ _ c.loop-bond.invariant all c.requires c.mark_all.ensures.rings
