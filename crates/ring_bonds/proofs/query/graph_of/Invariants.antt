use Rattle.std.proofs.Common.{◌≡◌, take, map, All}
use Rattle.htss_defs.specs.Graph.{AreEnds}
use Rattle.htss_defs.specs.QueryGraph.{query_bond_ends}
use Rattle.ring_bonds.proofs.query.graph_of.Given as goal

abbrev pub invariant-loop-bond : goal.invariant-loop-bond
invariant-loop-bond l = record {
  linked : l.graph ≡ record { atoms = l.atoms; bonds = map query_bond_ends (take l.bond-index l.bonds) };
  ends : All (λ b. AreEnds l.atoms (query_bond_ends b)) (take l.bond-index l.bonds);
}
