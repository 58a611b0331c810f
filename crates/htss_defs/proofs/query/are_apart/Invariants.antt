use Rattle.std.proofs.Common.{◌≡◌, take, map, AllPairs}
use Rattle.htss_defs.specs.QueryGraph.{query_bond_ends, AreQueryBondsApart}
use Rattle.htss_defs.proofs.query.are_apart.Given as goal

abbrev pub invariant-loop-bond : goal.invariant-loop-bond
invariant-loop-bond l = record {
  linked : l.adjacency ≡ record { atoms = l.atoms; bonds = map query_bond_ends (take l.bond-index l.bonds) };
  apart : AllPairs AreQueryBondsApart (take l.bond-index l.bonds);
}
