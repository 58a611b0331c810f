-- What an atom has whose codes cover a need.
use Rattle.std.proofs.Common.{◌≡◌, ℕ, ◌+◌, ◌-◌, ◌<◌, ◌≤◌, true, false, List, length, get_or, sym, ap, ◌∙◌, arith}
use Rattle.std.specs.Prelude.{◌↔◌, IsTrue}
use Rattle.std.proofs.lemmas.Bool.{false≢true}
use Rattle.htss_defs.specs.declared.mol.Atom.{Atom}
use Rattle.htss_defs.specs.declared.needs.Need.{Need}
use Rattle.htss_defs.specs.Molecule.{Molecule, IsMolecule}
use Rattle.htss_defs.specs.Passes.{allows}
use Rattle.htss_defs.specs.Codes.{no_atom, element_at, code_at, codes_at}
use Rattle.htss_defs.specs.Needs.{Covers}
use Rattle.env_cover.specs.Cover.{HasAllowed}
use Rattle.env_cover.specs.Reach.{Reaches}
use Rattle.env_cover.proofs.Covering.{element-lane}

element-high : (m : Molecule) (x : ℕ) → IsMolecule m → 1 ≤ x → x ≤ length m.atoms → element_at m x ≤ 118
element-high m x valid low high = (valid.each_atom (x - 1) no_atom (omega arith)).element.1

allowed-of : (need : Need) (m : Molecule) (x : ℕ) → IsMolecule m → 1 ≤ x → x ≤ length m.atoms → Covers need (codes_at m x) → allows need.test (element_at m x) ≡ true
allowed-of need m x valid low high covers = sym (ap (allows need.test) (element-lane m x (element-high m x valid low high))) ∙ covers.element

-- an atom whose element the test does not allow
pub unallowed : (need : Need) (m : Molecule) (atoms : List Atom) (x : ℕ) → atoms ≡ m.atoms → IsMolecule m → 1 ≤ x → x ≤ length m.atoms → allows need.test (get_or atoms (x - 1) no_atom).element ≡ false → Covers need (codes_at m x) → ⊥
unallowed need m atoms x is valid low high other covers =
    false≢true (sym other ∙ ap (λ (xs : List Atom). allows need.test (get_or xs (x - 1) no_atom).element) is ∙ allowed-of need m x valid low high covers)

-- an atom whose code 0 does not reach the need
pub unreached : (need : Need) (m : Molecule) (x own : ℕ) → own ≡ code_at m 0 x → (Reaches (get_or need.words 0 0) own → ⊥) → Covers need (codes_at m x) → ⊥
unreached need m x own is none covers = none (rw is (λ i lt. covers.lanes 0 i (omega arith) lt))

pub neither : (P : Type 0) → (P → ⊥) → IsTrue false ↔ P
neither P none = (λ f. absurd (false≢true f), λ p. absurd (none p))

-- the test allows none of the first n elements
abbrev pub AllowsNone : Need → List Atom → ℕ → Type 0
AllowsNone need atoms n = (k : ℕ) → k < n → allows need.test (get_or atoms k no_atom).element ≡ false

pub allowed-at : (need : Need) (m : Molecule) (atoms : List Atom) (k : ℕ) → atoms ≡ m.atoms → k < length atoms → allows need.test (get_or atoms k no_atom).element ≡ true → HasAllowed need m
allowed-at need m atoms k is within allowed =
    let place : k + 1 - 1 ≡ k = omega arith in
    record {
      place = k + 1;
      within = (omega arith, omega (arith, ap length is));
      allowed = ap (λ (n : ℕ). allows need.test (get_or m.atoms n no_atom).element) place ∙ ap (λ (xs : List Atom). allows need.test (get_or xs k no_atom).element) (sym is) ∙ allowed;
    }

pub none-allowed : (need : Need) (m : Molecule) (atoms : List Atom) → atoms ≡ m.atoms → AllowsNone need atoms (length atoms) → HasAllowed need m → ⊥
none-allowed need m atoms is none has =
    false≢true (sym (none (has.place - 1) (omega (arith, has.within.0, has.within.1, ap length is))) ∙ ap (λ (xs : List Atom). allows need.test (get_or xs (has.place - 1) no_atom).element) is ∙ has.allowed)

pub none-covers : (need : Need) (m : Molecule) (atoms : List Atom) → atoms ≡ m.atoms → IsMolecule m → AllowsNone need atoms (length atoms) → (x : ℕ) → 1 ≤ x → x ≤ length m.atoms → Covers need (codes_at m x) → ⊥
none-covers need m atoms is valid none x low high = unallowed need m atoms x is valid low high (none (x - 1) (omega (arith, ap length is)))
