-- Atoms that are set one by one.
use Rattle.std.proofs.Common.{◌≡◌, ℕ, ◌+◌, ◌≤◌, ◌<◌, ◌≤ℤ◌, ℤ, pos, negsuc, List, [], ◌∷◌, ◌++◌, length, map, take, drop, set, get_or, All, sym, ap, subst, ◌∙◌, arith}
use Rattle.std.proofs.lemmas.List.{take_more, take_more_set, map-append, get_or-drop, drop-set-lt, drop-drop}
use Rattle.std.proofs.lemmas.Int.{to_z-of_z, ints}
use mir.Val.{to_z, of_z}
use mir.Syntax.{w8}
use Rattle.std.proofs.lemmas.List.Elements.{All-set, All-get_or}
use Rattle.htss_defs.specs.declared.mol.Atom.{Atom}
use Rattle.htss_defs.specs.Molecule.{IsAtom}
use Rattle.mol_section.specs.AtomLines.{IsAtomFrom}
use Rattle.mol_section.specs.PropertyLines.{no_atom, no_charge}

pub clear_more : (atoms old : List Atom) (i : ℕ) (changed : Atom) → i < length atoms → length atoms ≡ length old
    → take i atoms ≡ map no_charge (take i old) → drop i atoms ≡ drop i old → changed ≡ no_charge (get_or atoms i no_atom)
    → take (i + 1) (set atoms i changed) ≡ map no_charge (take (i + 1) old)
clear_more atoms old i changed within long front back is =
    let here : get_or atoms i no_atom ≡ get_or old i no_atom = same i atoms old back in
    take_more_set atoms i changed within
    ∙ ap (λ (x : List Atom). x ++ changed ∷ []) front ∙ ap (λ (a : Atom). map no_charge (take i old) ++ a ∷ []) (is ∙ ap no_charge here)
    ∙ sym (map-append no_charge (take i old) (get_or old i no_atom ∷ [])) ∙ ap (map no_charge) (sym (take_more old i no_atom (subst (λ (n : ℕ). i < n) long within)))
  where
    same : (i : ℕ) (xs ys : List Atom) → drop i xs ≡ drop i ys → get_or xs i no_atom ≡ get_or ys i no_atom
    same i xs ys e =
        let k : i + 0 ≡ i = omega arith in
        ap (λ (n : ℕ). get_or xs n no_atom) (sym k) ∙ sym (get_or-drop i xs 0 no_atom) ∙ ap (λ (x : List Atom). get_or x 0 no_atom) e ∙ get_or-drop i ys 0 no_atom ∙ ap (λ (n : ℕ). get_or ys n no_atom) k

pub clear_left : (atoms old : List Atom) (i : ℕ) (changed : Atom) → drop i atoms ≡ drop i old → drop (i + 1) (set atoms i changed) ≡ drop (i + 1) old
clear_left atoms old i changed back = drop-set-lt (i + 1) atoms i changed (omega arith) ∙ sym (drop-drop 1 i atoms) ∙ ap (drop 1) back ∙ drop-drop 1 i old

pub charged : (least : ℕ) (atoms : List Atom) (i : ℕ) (charge : ℤ) (changed : Atom) → i < length atoms → negsuc 14 ≤ℤ charge → charge ≤ℤ pos 15
    → changed ≡ record (get_or atoms i no_atom) { charge = charge } → All (IsAtomFrom least) atoms → All (IsAtomFrom least) (set atoms i changed)
charged least atoms i charge changed within low high is all =
    let old : IsAtomFrom least (get_or atoms i no_atom) = All-get_or (IsAtomFrom least) atoms i no_atom within all in
    All-set (IsAtomFrom least) atoms i changed (subst (IsAtomFrom least) (sym is) (record { element = old.element; charge = (low, high); mass = old.mass })) all

pub weighed : (least : ℕ) (atoms : List Atom) (i mass : ℕ) (changed : Atom) → i < length atoms → mass ≤ 999
    → changed ≡ record (get_or atoms i no_atom) { mass = mass } → All (IsAtomFrom least) atoms → All (IsAtomFrom least) (set atoms i changed)
weighed least atoms i mass changed within small is all =
    let old : IsAtomFrom least (get_or atoms i no_atom) = All-get_or (IsAtomFrom least) atoms i no_atom within all in
    All-set (IsAtomFrom least) atoms i changed (subst (IsAtomFrom least) (sym is) (record { element = old.element; charge = old.charge; mass = small })) all

-- a small charge passes through a byte
pub passed : (charge : ℤ) → negsuc 14 ≤ℤ charge → charge ≤ℤ pos 15 → to_z w8 (of_z w8 charge) ≡ charge
passed charge low high = to_z-of_z w8 charge (search (arith, ints))

-- atoms of a molecule have elements from 1 on
pub from_first : (atoms : List Atom) → All IsAtom atoms → All (IsAtomFrom 1) atoms
from_first atoms all = λ i d lt. let a = all i d lt in record { element = a.element; charge = a.charge; mass = a.mass }

pub to_first : (atoms : List Atom) → All (IsAtomFrom 1) atoms → All IsAtom atoms
to_first atoms all = λ i d lt. let a = all i d lt in record { element = a.element; charge = a.charge; mass = a.mass }
