use Rattle.std.proofs.Common.{◌<◌, length, false, refl, arith}
use Rattle.ring_bonds.proofs.QueryBonds.{AreSet-more}
use Rattle.ring_bonds.proofs.query.set_flags.Goals as goal

pub loop-k-preserved : goal.loop-k-preserved
loop-k-preserved c =
    let within : c.loop-k.k < length c.loop-k.bonds = omega (arith, c.loop-k.auto.bonds, c.loop-k-test.true) in
    AreSet-more _ _ _ _ (record { first = 0; second = 0; kind = 0; topology = 0; ring = false }) _ c.loop-k.invariant within refl
