use Rattle.std.proofs.Common.{map, take}
use Rattle.env_code.specs.BondCounts.{AreBondCounts}
use Rattle.env_cover.specs.Sure.{sure_bond}
use Rattle.env_cover.proofs.needs.bond_counts.Given as goal

abbrev pub invariant-loop-bond : goal.invariant-loop-bond
invariant-loop-bond l = AreBondCounts (map sure_bond (take l.bond-index l.bond-items)) l.counts
