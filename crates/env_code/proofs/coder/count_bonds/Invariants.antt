use Rattle.std.proofs.Common.{take}
use Rattle.env_code.specs.BondCounts.{AreBondCounts}
use Rattle.env_code.proofs.coder.count_bonds.Given as goal

abbrev pub invariant-loop-bond : goal.invariant-loop-bond
invariant-loop-bond l = AreBondCounts (take l.bond-index l.bond-items) l.counts
