use Rattle.std.proofs.Common.{◌≡◌, take, map, length}
use Rattle.htss_defs.specs.QueryGraph.{query_bond_ends}
use Rattle.htss_defs.proofs.query.Query.link.Given as goal

abbrev pub invariant-loop-bond : goal.invariant-loop-bond
invariant-loop-bond l = l.adjacency ≡ record
    { atoms = length l.self.atoms; bonds = map query_bond_ends (take l.bond-index l.self.bonds) }
