use Rattle.std.proofs.Common.{false, arith}
use Rattle.ring_bonds.proofs.Visits.{get_or-cleared}
use Rattle.ring_bonds.proofs.marking.lower_flags.Goals as goal

pub loop-bond-preserved : goal.loop-bond-preserved
loop-bond-preserved c k was = get_or-cleared c.loop-bond.flags c.loop-bond.bond k false (λ other. c.loop-bond.invariant k (λ le. was (omega arith)))

pub returns : goal.returns
returns c k was = c.loop-bond.invariant k (λ le. was (omega arith))
