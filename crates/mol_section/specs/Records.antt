-- What the reader of a record keeps.
use Rattle.std.specs.Prelude.{◌≡◌, ℕ, List, length, map, Bool, All, AllPairs}
use Rattle.std.specs.List.{zip, range_with_len}
use Rattle.htss_defs.specs.declared.mol.Atom.{Atom}
use Rattle.htss_defs.specs.declared.mol.Bond.{Bond}
use Rattle.htss_defs.specs.Molecule.{IsAtom, IsBond, AreBondsApart}
use Rattle.mol_section.specs.SectionRecord.{atom_of, bond_of, sets_charges_aside}
use Rattle.mol_section.specs.Walk.{Parts}

-- the atoms of these lines, after these properties
abbrev pub made_atoms : ℕ → List (List ℕ) → List (List ℕ) → List Atom
made_atoms size properties lines = map (atom_of size properties) (zip (range_with_len 1 (length lines)) lines)

-- the atoms and bonds that the lines say
pub record Keeps (atoms : List Atom) (bonds : List Bond) (aside : Bool) (parts : Parts) : Type 0 where
  pub atoms_are : atoms ≡ made_atoms parts.size parts.properties parts.atoms
  pub valid_atoms : All IsAtom atoms
  pub bonds_are : bonds ≡ map bond_of parts.bonds
  pub valid_bonds : All (IsBond parts.size) bonds
  pub apart : AllPairs AreBondsApart bonds
  pub aside_is : aside ≡ sets_charges_aside parts.properties
