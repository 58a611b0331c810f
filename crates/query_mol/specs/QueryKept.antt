-- What the reader of a query keeps.
use Rattle.std.specs.Prelude.{◌≡◌, ◌≤◌, List, map, Bool, Option, IfSome, All, AllPairs}
use Rattle.htss_defs.specs.declared.mol.Atom.{Atom}
use Rattle.htss_defs.specs.declared.query.AtomTest.{AtomTest}
use Rattle.htss_defs.specs.declared.query.QueryBond.{QueryBond}
use Rattle.htss_defs.specs.QueryGraph.{IsAtomTest, IsQueryBond, AreQueryBondsApart}
use Rattle.mol_section.specs.AtomLines.{IsAtomFrom}
use Rattle.mol_section.specs.SectionRecord.{sets_charges_aside}
use Rattle.mol_section.specs.Walk.{Parts}
use Rattle.mol_section.specs.Records.{made_atoms}
use Rattle.query_mol.specs.QueryRecord.{query_bond_of}
use Rattle.query_mol.specs.Tests.{told_tests}

-- the atoms, their tests and the bonds that the lines say
pub record KeepsQuery (atoms : List Atom) (tests : List (Option AtomTest)) (bonds : List QueryBond) (aside : Bool)
    (parts : Parts) : Type 0 where
  pub few : parts.size ≤ 64
  pub atoms_are : atoms ≡ made_atoms parts.size parts.properties parts.atoms
  pub valid_atoms : All (IsAtomFrom 0) atoms
  pub tests_are : tests ≡ told_tests parts.size parts.lists parts.properties parts.atoms
  pub valid_tests : All (λ t. IfSome t IsAtomTest) tests
  pub bonds_are : bonds ≡ map query_bond_of parts.bonds
  pub valid_bonds : All (IsQueryBond parts.size) bonds
  pub apart : AllPairs AreQueryBondsApart bonds
  pub aside_is : aside ≡ sets_charges_aside parts.properties
