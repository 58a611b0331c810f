use Rattle.std.proofs.Common.{◌≡◌, take, map, length}
use Rattle.htss_defs.specs.Molecule.{bond_ends}
use Rattle.htss_defs.proofs.mol.Mol.link.Given as goal

abbrev pub invariant-loop-bond : goal.invariant-loop-bond
invariant-loop-bond l = l.adjacency ≡ record
    { atoms = length l.self.atoms; bonds = map bond_ends (take l.bond-index l.self.bonds) }
