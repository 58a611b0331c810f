use Rattle.ring_bonds.specs.QueryFlags.{AreSet}
use Rattle.ring_bonds.proofs.query.set_flags.Given as goal

abbrev pub invariant-loop-k : goal.invariant-loop-k
invariant-loop-k l = AreSet l.fn.bonds l.bonds l.flags l.k
