-- When an atom or a bond of a molecule passes the test of one of a query. (CTfile Formats, "The Atom Block" and "Atom
-- list" for the tests of atoms, "The Bond Block" for query bond types and topology. That an excluding list never allows
-- hydrogen, and that charge 0 and mass 0 ask nothing, is this project's own.)
use Rattle.std.specs.Prelude.{◌≡◌, ℕ, pos, Bool, true, not, ◌==◌, ◌&&◌, ◌||◌, if◌then◌else◌}
use Rattle.std.specs.Ordering.{int_eq}
use Rattle.std.specs.Int.{bit_at}
use Rattle.htss_defs.specs.declared.mol.Atom.{Atom}
use Rattle.htss_defs.specs.declared.query.AtomTest.{AtomTest}
use Rattle.htss_defs.specs.declared.query.AtomTest.TheVariants.{Element, Any, NotHydrogen, NotCarbonHydrogen, OneOf}
use Rattle.htss_defs.specs.declared.query.AtomTest.TheVariants.{NoneOf}
use Rattle.htss_defs.specs.declared.query.QueryAtom.{QueryAtom}
use Rattle.htss_defs.specs.Graph.{Graph, IsRingBond}

-- the test allows the element
abbrev pub allows : AtomTest → ℕ → Bool
allows (Element e) x = x == e
allows Any x = true
allows NotHydrogen x = not (x == 1)
allows NotCarbonHydrogen x = not (x == 1) && not (x == 6)
allows (OneOf set) x = bit_at set.0 x == 1
allows (NoneOf set) x = not (x == 1) && not (bit_at set.0 x == 1)

abbrev pub atom_passes : QueryAtom → Atom → Bool
atom_passes q a = allows q.test a.element && (int_eq q.charge (pos 0) || int_eq q.charge a.charge)
    && (q.mass == 0 || q.mass == a.mass)

-- the bond type that is asked allows the bond type of the molecule
abbrev pub kind_passes : ℕ → ℕ → Bool
kind_passes asked kind =
    if asked == 5 then kind == 1 || kind == 2
    else (if asked == 6 then kind == 1 || kind == 4
    else (if asked == 7 then kind == 2 || kind == 4
    else (if asked == 8 then true
    else kind == asked)))

-- topology 1 asks for a ring bond, 2 for a bond that is none
pub record MeetsTopology (asked : ℕ) (g : Graph) (bond : ℕ) : Type 0 where
  pub ring : asked ≡ 1 → IsRingBond g bond
  pub chain : asked ≡ 2 → IsRingBond g bond → ⊥
