-- What a molecule is: atoms and bonds as a record has them.
-- (CTfile Formats, "The Counts Line" for the numbers of atoms and bonds, "The Atom Block" for charge and mass,
-- "The Bond Block" for the bond types 1 to 4. The ranges of charge and mass are this project's own profile.)
use Rattle.std.specs.Prelude.{ℕ, ◌≤◌, ◌≤ℤ◌, pos, negsuc, List, length, map, All, AllPairs}
use Rattle.htss_defs.specs.declared.graph.Ends.{Ends}
use Rattle.htss_defs.specs.declared.mol.Atom.{Atom}
use Rattle.htss_defs.specs.declared.mol.Bond.{Bond}
use Rattle.htss_defs.specs.Graph.{Graph, AreEnds, AreApart}

-- what contracts see of a `Mol`
pub record Molecule : Type 0 where
  pub atoms : List Atom
  pub bonds : List Bond

abbrev pub bond_ends : Bond → Ends
bond_ends b = record { first = b.first; second = b.second }

abbrev pub molecule_graph : Molecule → Graph
molecule_graph m = record { atoms = length m.atoms; bonds = map bond_ends m.bonds }

pub record IsAtom (a : Atom) : Type 0 where
  pub element : (1 ≤ a.element) × (a.element ≤ 118)
  pub charge : (negsuc 14 ≤ℤ a.charge) × (a.charge ≤ℤ pos 15)
  pub mass : a.mass ≤ 999

-- among n atoms
pub record IsBond (n : ℕ) (b : Bond) : Type 0 where
  pub ends : AreEnds n (bond_ends b)
  pub kind : (1 ≤ b.kind) × (b.kind ≤ 4)

-- the bonds join different pairs of places
abbrev pub AreBondsApart : Bond → Bond → Type 0
AreBondsApart earlier later = AreApart (bond_ends earlier) (bond_ends later)

pub record IsMolecule (m : Molecule) : Type 0 where
  pub atoms : (1 ≤ length m.atoms) × (length m.atoms ≤ 999)
  pub bonds : length m.bonds ≤ 999
  pub each_atom : All IsAtom m.atoms
  pub each_bond : All (IsBond (length m.atoms)) m.bonds
  pub no_pair_twice : AllPairs AreBondsApart m.bonds
