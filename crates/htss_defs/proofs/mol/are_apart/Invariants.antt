use Rattle.std.proofs.Common.{◌≡◌, take, map, AllPairs}
use Rattle.htss_defs.specs.Molecule.{bond_ends, AreBondsApart}
use Rattle.htss_defs.proofs.mol.are_apart.Given as goal

abbrev pub invariant-loop-bond : goal.invariant-loop-bond
invariant-loop-bond l = record {
  linked : l.adjacency ≡ record { atoms = l.atoms; bonds = map bond_ends (take l.bond-index l.bonds) };
  apart : AllPairs AreBondsApart (take l.bond-index l.bonds);
}
