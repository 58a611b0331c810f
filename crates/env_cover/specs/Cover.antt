-- Which atoms of a molecule a need may be covered by.
use Rattle.std.specs.Prelude.{ℕ, ◌≤◌, length, IsTrue}
use Rattle.htss_defs.specs.declared.needs.Need.{Need}
use Rattle.htss_defs.specs.Molecule.{Molecule}
use Rattle.htss_defs.specs.Passes.{allows}
use Rattle.htss_defs.specs.Codes.{element_at}

-- the test of the need allows the element of some atom
pub record HasAllowed (need : Need) (m : Molecule) : Type 0 where
  pub place : ℕ
  pub within : (1 ≤ place) × (place ≤ length m.atoms)
  pub allowed : IsTrue (allows need.test (element_at m place))
