-- A molecule whose ring bonds may be marked otherwise.
use Rattle.std.proofs.Common.{◌≡◌, Bool, true, false, refl, sym, ap}
use Rattle.htss_defs.specs.declared.needs.Need.{Need}
use Rattle.htss_defs.specs.Molecule.{Molecule, IsMolecule}
use Rattle.htss_defs.specs.Marked.{unmarked_molecule}
use Rattle.env_cover.specs.Cover.{HasAllowed}
use Rattle.env_cover.specs.Screening.{HasCover}
use Rattle.env_cover.proofs.AtomCover.{allowed-at, none-covers}

not_true : (b : Bool) → (b ≡ true → ⊥) → b ≡ false
not_true true none = absurd (none refl)
not_true false none = refl

-- without an atom of an element that the need allows none covers it, whatever the marks
pub none_allowed : (need : Need) (m marked : Molecule) → IsMolecule marked → unmarked_molecule marked ≡ unmarked_molecule m → (HasAllowed need m → ⊥) → HasCover need marked → ⊥
none_allowed need m marked valid same none has =
    none-covers need marked m.atoms (ap (λ (x : Molecule). x.atoms) (sym same)) valid (λ k within. not_true _ (λ is. none (allowed-at need m m.atoms k refl within is))) has.place has.within.0 has.within.1 has.covers
