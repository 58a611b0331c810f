-- The fields of a written word give back what it was made of.
use Rattle.std.proofs.Common.{◌≡◌, ℕ, zero, suc, ◌+◌, ◌*◌, ◌/◌, ◌%◌, ◌^◌, ◌<◌, ◌≤◌, Bool, true, false, cond, List, [], ◌∷◌, get_or, refl, sym, ap, ◌∙◌, arith}
use Rattle.std.specs.Prelude.{ℤ, pos, negsuc, ◌+ℤ◌, ◌-ℤ◌, ◌≤ℤ◌, nat_abs, eqb}
use Rattle.htss_defs.specs.declared.mol.Atom.{Atom}
use Rattle.htss_defs.specs.declared.mol.Bond.{Bond}
use Rattle.htss_defs.specs.Molecule.{IsAtom, IsBond}
use Rattle.board_core.specs.Blocks.{atoms_in, bonds_in, bytes_in, atom_of, bond_of}
use Rattle.std.proofs.lemmas.Int.{ints}
use Rattle.std.specs.Int.{from_le_bytes, w64}
use Rattle.block_words.specs.Writing.{name_word, atom_word, bond_word}

-- ---- the head

pub atoms_back : (atoms bonds bytes : ℕ) → atoms < 2 ^ 10 → atoms_in (atoms + 2 ^ 10 * bonds + 2 ^ 20 * bytes) ≡ atoms
atoms_back atoms bonds bytes a = omega arith

pub bonds_back : (atoms bonds bytes : ℕ) → atoms < 2 ^ 10 → bonds < 2 ^ 10 → bonds_in (atoms + 2 ^ 10 * bonds + 2 ^ 20 * bytes) ≡ bonds
bonds_back atoms bonds bytes a b = omega arith

pub bytes_back : (atoms bonds bytes : ℕ) → atoms < 2 ^ 10 → bonds < 2 ^ 10 → bytes < 2 ^ 7 → bytes_in (atoms + 2 ^ 10 * bonds + 2 ^ 20 * bytes) ≡ bytes
bytes_back atoms bonds bytes a b c = omega arith

-- ---- an atom

low_back : (low middle high : ℕ) → low < 2 ^ 8 → (low + 2 ^ 8 * middle + 2 ^ 16 * high) % 2 ^ 8 ≡ low
low_back low middle high a = omega arith

middle_back : (low middle high : ℕ) → low < 2 ^ 8 → middle < 2 ^ 8 → (low + 2 ^ 8 * middle + 2 ^ 16 * high) / 2 ^ 8 % 2 ^ 8 ≡ middle
middle_back low middle high a b = omega arith

high_back : (low middle high : ℕ) → low < 2 ^ 8 → middle < 2 ^ 8 → high < 2 ^ 16 → (low + 2 ^ 8 * middle + 2 ^ 16 * high) / 2 ^ 16 % 2 ^ 16 ≡ high
high_back low middle high a b c = omega arith

-- a charge is moved by 128 where it is written, and back where it is read
raised_low : (charge : ℤ) → negsuc 14 ≤ℤ charge → charge ≤ℤ pos 15 → nat_abs (charge +ℤ pos 128) < 2 ^ 8
raised_low charge low high = omega (arith, ints)

charge_back : (charge : ℤ) → negsuc 14 ≤ℤ charge → charge ≤ℤ pos 15 → pos (nat_abs (charge +ℤ pos 128)) -ℤ pos 128 ≡ charge
charge_back charge low high = omega (arith, ints)

atom_made : ℕ → ℤ → ℕ → Atom
atom_made element charge mass = record { element = element; charge = charge; mass = mass }

pub atom_back : (atom : Atom) → IsAtom atom → atom_of (atom_word atom) ≡ atom
unfolding atom_made
atom_back atom is =
    let raised : ℕ = nat_abs (atom.charge +ℤ pos 128) in
    let most = is.element.1 in
    let mass = is.mass in
    let small = raised_low atom.charge is.charge.0 is.charge.1 in
    let one = low_back atom.element raised atom.mass (omega arith) in
    let two = middle_back atom.element raised atom.mass (omega arith) small in
    let three = high_back atom.element raised atom.mass (omega arith) small (omega arith) in
    let charge = ap (λ n. pos n -ℤ pos 128) two ∙ charge_back atom.charge is.charge.0 is.charge.1 in
    λ t. atom_made (one t) (charge t) (three t)

-- ---- a bond

first_back : (first second kind ring : ℕ) → first < 2 ^ 16 → (first + 2 ^ 16 * second + 2 ^ 32 * kind + 2 ^ 40 * ring) % 2 ^ 16 ≡ first
first_back first second kind ring a = omega arith

second_back : (first second kind ring : ℕ) → first < 2 ^ 16 → second < 2 ^ 16 → (first + 2 ^ 16 * second + 2 ^ 32 * kind + 2 ^ 40 * ring) / 2 ^ 16 % 2 ^ 16 ≡ second
second_back first second kind ring a b = omega arith

kind_back : (first second kind ring : ℕ) → first < 2 ^ 16 → second < 2 ^ 16 → kind < 2 ^ 8 → (first + 2 ^ 16 * second + 2 ^ 32 * kind + 2 ^ 40 * ring) / 2 ^ 32 % 2 ^ 8 ≡ kind
kind_back first second kind ring a b c = omega arith

ring_back : (first second kind ring : ℕ) → first < 2 ^ 16 → second < 2 ^ 16 → kind < 2 ^ 8 → ring < 2 → (first + 2 ^ 16 * second + 2 ^ 32 * kind + 2 ^ 40 * ring) / 2 ^ 40 % 2 ≡ ring
ring_back first second kind ring a b c d = omega arith

flag_least : (flag : Bool) → cond flag 1 0 < 2
flag_least true = omega arith
flag_least false = omega arith

flag_back : (flag : Bool) → eqb (cond flag 1 0) 1 ≡ flag
flag_back true = refl
flag_back false = refl

bond_made : ℕ → ℕ → ℕ → Bool → Bond
bond_made first second kind ring = record { first = first; second = second; kind = kind; ring = ring }

pub bond_back : (atoms : ℕ) (bond : Bond) → atoms ≤ 999 → IsBond atoms bond → bond_of (bond_word bond) ≡ bond
unfolding bond_made
bond_back atoms bond few is =
    let ring : ℕ = cond bond.ring 1 0 in
    let first = is.ends.first.1 in
    let second = is.ends.second.1 in
    let kind = is.kind.1 in
    let one = first_back bond.first bond.second bond.kind ring (omega arith) in
    let two = second_back bond.first bond.second bond.kind ring (omega arith) (omega arith) in
    let three = kind_back bond.first bond.second bond.kind ring (omega arith) (omega arith) (omega arith) in
    let four = ring_back bond.first bond.second bond.kind ring (omega arith) (omega arith) (omega arith) (flag_least bond.ring) in
    let flag = ap (λ n. eqb n 1) four ∙ flag_back bond.ring in
    λ t. bond_made (one t) (two t) (three t) (flag t)

-- ---- bytes of a name

-- a word of eight bytes
unfoldable eight : ℕ → ℕ → ℕ → ℕ → ℕ → ℕ → ℕ → ℕ → ℕ
eight a b c d e f g h = a + 2 ^ 8 * b + 2 ^ 16 * c + 2 ^ 24 * d + 2 ^ 32 * e + 2 ^ 40 * f + 2 ^ 48 * g + 2 ^ 56 * h

part_0 : (a b c d e f g h : ℕ) → a < 2 ^ 8 → eight a b c d e f g h / 2 ^ 0 % 2 ^ 8 ≡ a
unfolding eight
part_0 a b c d e f g h l0 = omega arith

part_1 : (a b c d e f g h : ℕ) → a < 2 ^ 8 → b < 2 ^ 8 → eight a b c d e f g h / 2 ^ 8 % 2 ^ 8 ≡ b
unfolding eight
part_1 a b c d e f g h l0 l1 = omega arith

part_2 : (a b c d e f g h : ℕ) → a < 2 ^ 8 → b < 2 ^ 8 → c < 2 ^ 8 → eight a b c d e f g h / 2 ^ 16 % 2 ^ 8 ≡ c
unfolding eight
part_2 a b c d e f g h l0 l1 l2 = omega arith

part_3 : (a b c d e f g h : ℕ) → a < 2 ^ 8 → b < 2 ^ 8 → c < 2 ^ 8 → d < 2 ^ 8 → eight a b c d e f g h / 2 ^ 24 % 2 ^ 8 ≡ d
unfolding eight
part_3 a b c d e f g h l0 l1 l2 l3 = omega arith

part_4 : (a b c d e f g h : ℕ) → a < 2 ^ 8 → b < 2 ^ 8 → c < 2 ^ 8 → d < 2 ^ 8 → e < 2 ^ 8 → eight a b c d e f g h / 2 ^ 32 % 2 ^ 8 ≡ e
unfolding eight
part_4 a b c d e f g h l0 l1 l2 l3 l4 = omega arith

part_5 : (a b c d e f g h : ℕ) → a < 2 ^ 8 → b < 2 ^ 8 → c < 2 ^ 8 → d < 2 ^ 8 → e < 2 ^ 8 → f < 2 ^ 8 → eight a b c d e f g h / 2 ^ 40 % 2 ^ 8 ≡ f
unfolding eight
part_5 a b c d e f g h l0 l1 l2 l3 l4 l5 = omega arith

part_6 : (a b c d e f g h : ℕ) → a < 2 ^ 8 → b < 2 ^ 8 → c < 2 ^ 8 → d < 2 ^ 8 → e < 2 ^ 8 → f < 2 ^ 8 → g < 2 ^ 8 → eight a b c d e f g h / 2 ^ 48 % 2 ^ 8 ≡ g
unfolding eight
part_6 a b c d e f g h l0 l1 l2 l3 l4 l5 l6 = omega arith

part_7 : (a b c d e f g h : ℕ) → a < 2 ^ 8 → b < 2 ^ 8 → c < 2 ^ 8 → d < 2 ^ 8 → e < 2 ^ 8 → f < 2 ^ 8 → g < 2 ^ 8 → h < 2 ^ 8 → eight a b c d e f g h / 2 ^ 56 % 2 ^ 8 ≡ h
unfolding eight
part_7 a b c d e f g h l0 l1 l2 l3 l4 l5 l6 l7 = omega arith

pub record AreBytes (name : List ℕ) : Type 0 where
  pub at : (i : ℕ) → get_or name i 0 < 2 ^ 8

of_eight : (name : List ℕ) (from : ℕ) → name_word name from ≡ eight (get_or name from 0) (get_or name (from + 1) 0) (get_or name (from + 2) 0) (get_or name (from + 3) 0) (get_or name (from + 4) 0) (get_or name (from + 5) 0) (get_or name (from + 6) 0) (get_or name (from + 7) 0)
unfolding name_word eight
of_eight name from = refl

-- the byte at place r of the eight
part_at : (name : List ℕ) (from r : ℕ) → AreBytes name → r < 8 → name_word name from / 2 ^ (8 * r) % 2 ^ 8 ≡ get_or name (from + r) 0
part_at name from zero bytes l = ap (λ w. w / 2 ^ 0 % 2 ^ 8) (of_eight name from) ∙ part_0 (get_or name from 0) (get_or name (from + 1) 0) (get_or name (from + 2) 0) (get_or name (from + 3) 0) (get_or name (from + 4) 0) (get_or name (from + 5) 0) (get_or name (from + 6) 0) (get_or name (from + 7) 0) (bytes.at from) ∙ ap (λ j. get_or name j 0) none
  where
    none : from ≡ from + 0
    none = omega arith
part_at name from (suc zero) bytes l = ap (λ w. w / 2 ^ 8 % 2 ^ 8) (of_eight name from) ∙ part_1 (get_or name from 0) (get_or name (from + 1) 0) (get_or name (from + 2) 0) (get_or name (from + 3) 0) (get_or name (from + 4) 0) (get_or name (from + 5) 0) (get_or name (from + 6) 0) (get_or name (from + 7) 0) (bytes.at from) (bytes.at (from + 1))
part_at name from (suc (suc zero)) bytes l = ap (λ w. w / 2 ^ 16 % 2 ^ 8) (of_eight name from) ∙ part_2 (get_or name from 0) (get_or name (from + 1) 0) (get_or name (from + 2) 0) (get_or name (from + 3) 0) (get_or name (from + 4) 0) (get_or name (from + 5) 0) (get_or name (from + 6) 0) (get_or name (from + 7) 0) (bytes.at from) (bytes.at (from + 1)) (bytes.at (from + 2))
part_at name from (suc (suc (suc zero))) bytes l = ap (λ w. w / 2 ^ 24 % 2 ^ 8) (of_eight name from) ∙ part_3 (get_or name from 0) (get_or name (from + 1) 0) (get_or name (from + 2) 0) (get_or name (from + 3) 0) (get_or name (from + 4) 0) (get_or name (from + 5) 0) (get_or name (from + 6) 0) (get_or name (from + 7) 0) (bytes.at from) (bytes.at (from + 1)) (bytes.at (from + 2)) (bytes.at (from + 3))
part_at name from (suc (suc (suc (suc zero)))) bytes l = ap (λ w. w / 2 ^ 32 % 2 ^ 8) (of_eight name from) ∙ part_4 (get_or name from 0) (get_or name (from + 1) 0) (get_or name (from + 2) 0) (get_or name (from + 3) 0) (get_or name (from + 4) 0) (get_or name (from + 5) 0) (get_or name (from + 6) 0) (get_or name (from + 7) 0) (bytes.at from) (bytes.at (from + 1)) (bytes.at (from + 2)) (bytes.at (from + 3)) (bytes.at (from + 4))
part_at name from (suc (suc (suc (suc (suc zero))))) bytes l = ap (λ w. w / 2 ^ 40 % 2 ^ 8) (of_eight name from) ∙ part_5 (get_or name from 0) (get_or name (from + 1) 0) (get_or name (from + 2) 0) (get_or name (from + 3) 0) (get_or name (from + 4) 0) (get_or name (from + 5) 0) (get_or name (from + 6) 0) (get_or name (from + 7) 0) (bytes.at from) (bytes.at (from + 1)) (bytes.at (from + 2)) (bytes.at (from + 3)) (bytes.at (from + 4)) (bytes.at (from + 5))
part_at name from (suc (suc (suc (suc (suc (suc zero)))))) bytes l = ap (λ w. w / 2 ^ 48 % 2 ^ 8) (of_eight name from) ∙ part_6 (get_or name from 0) (get_or name (from + 1) 0) (get_or name (from + 2) 0) (get_or name (from + 3) 0) (get_or name (from + 4) 0) (get_or name (from + 5) 0) (get_or name (from + 6) 0) (get_or name (from + 7) 0) (bytes.at from) (bytes.at (from + 1)) (bytes.at (from + 2)) (bytes.at (from + 3)) (bytes.at (from + 4)) (bytes.at (from + 5)) (bytes.at (from + 6))
part_at name from (suc (suc (suc (suc (suc (suc (suc zero))))))) bytes l = ap (λ w. w / 2 ^ 56 % 2 ^ 8) (of_eight name from) ∙ part_7 (get_or name from 0) (get_or name (from + 1) 0) (get_or name (from + 2) 0) (get_or name (from + 3) 0) (get_or name (from + 4) 0) (get_or name (from + 5) 0) (get_or name (from + 6) 0) (get_or name (from + 7) 0) (bytes.at from) (bytes.at (from + 1)) (bytes.at (from + 2)) (bytes.at (from + 3)) (bytes.at (from + 4)) (bytes.at (from + 5)) (bytes.at (from + 6)) (bytes.at (from + 7))
part_at name from (suc (suc (suc (suc (suc (suc (suc (suc r)))))))) bytes l = absurd (omega arith)

-- byte i stands in the word of its eight
pub byte_back : (name : List ℕ) (i : ℕ) → AreBytes name → name_word name (8 * (i / 8)) / 2 ^ (8 * (i % 8)) % 2 ^ 8 ≡ get_or name i 0
byte_back name i bytes = part_at name (8 * (i / 8)) (i % 8) bytes (omega arith) ∙ ap (λ j. get_or name j 0) whole
  where
    whole : 8 * (i / 8) + i % 8 ≡ i
    whole = omega arith

made_eight : (a b c d e f g h : ℕ) → from_le_bytes w64 (a ∷ b ∷ c ∷ d ∷ e ∷ f ∷ g ∷ h ∷ []) ≡ eight a b c d e f g h
unfolding eight
made_eight a b c d e f g h = omega arith

-- eight bytes make the word, the first one lowest
pub name_word_is : (name : List ℕ) (from a b c d e f g h : ℕ) → a ≡ get_or name from 0 → b ≡ get_or name (from + 1) 0 → c ≡ get_or name (from + 2) 0 → d ≡ get_or name (from + 3) 0 → e ≡ get_or name (from + 4) 0 → f ≡ get_or name (from + 5) 0 → g ≡ get_or name (from + 6) 0 → h ≡ get_or name (from + 7) 0
    → from_le_bytes w64 (a ∷ b ∷ c ∷ d ∷ e ∷ f ∷ g ∷ h ∷ []) ≡ name_word name from
name_word_is name from a b c d e f g h is0 is1 is2 is3 is4 is5 is6 is7 = made_eight a b c d e f g h ∙ (λ t. eight (is0 t) (is1 t) (is2 t) (is3 t) (is4 t) (is5 t) (is6 t) (is7 t)) ∙ sym (of_eight name from)
