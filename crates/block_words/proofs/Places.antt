-- Which word stands at each place of a written block.
use Rattle.std.proofs.Common.{◌≡◌, ℕ, ◌+◌, ◌-◌, ◌*◌, ◌/◌, ◌<◌, ◌≤◌, cond, List, length, get_or, refl, ap, ◌∙◌, arith}
use Rattle.std.specs.Prelude.{nat_lt, eqb}
use Rattle.std.proofs.lemmas.Bool.{lt-ltb, le-ltb, ne_eqb, cond-true, cond-false}
use Rattle.htss_defs.specs.Molecule.{Molecule}
use Rattle.htss_defs.specs.Marked.{no_bond}
use Rattle.htss_defs.specs.Codes.{no_atom}
use Rattle.block_words.specs.Writing.{atoms_from, codes_from, bonds_from, size_of, head_word, name_word, atom_word, bond_word, code_word, written}

before : (i n x y : ℕ) → i < n → cond (nat_lt i n) x y ≡ x
before i n x y l = cond-true (nat_lt i n) x y (lt-ltb i n l)

past : (i n x y : ℕ) → n ≤ i → cond (nat_lt i n) x y ≡ y
past i n x y l = cond-false (nat_lt i n) x y (le-ltb i n l)

past_head : (i x y : ℕ) → 1 ≤ i → cond (eqb i 0) x y ≡ y
past_head i x y l = cond-false (eqb i 0) x y (ne_eqb i 0 (λ is. omega arith))

-- the sizes, one after the other
pub record InOrder (name : List ℕ) (mol : Molecule) : Type 0 where
  pub atoms : 3 ≤ atoms_from name
  pub codes : atoms_from name ≤ codes_from name mol
  pub bonds : codes_from name mol ≤ bonds_from name mol
  pub size : bonds_from name mol ≤ size_of name mol

pub in_order : (name : List ℕ) (mol : Molecule) → InOrder name mol
in_order name mol = record { atoms = omega arith; codes = omega arith; bonds = omega arith; size = omega arith }

pub size_least : (name : List ℕ) (mol : Molecule) → 3 ≤ size_of name mol
size_least name mol = omega arith

pub size_most : (name : List ℕ) (mol : Molecule) → length name ≤ 80 → length mol.atoms ≤ 999 → length mol.bonds ≤ 999 → size_of name mol ≤ 7006
size_most name mol a b c = omega arith

pub at_head : (name : List ℕ) (mol : Molecule) → written name mol 0 ≡ head_word name mol
at_head name mol = refl

pub at_mark : (name : List ℕ) (mol : Molecule) (i : ℕ) → 1 ≤ i → i < 3 → written name mol i ≡ 0
at_mark name mol i low high = past_head i _ _ low ∙ before i 3 _ _ high

pub at_name : (name : List ℕ) (mol : Molecule) (i : ℕ) → 3 ≤ i → i < atoms_from name → written name mol i ≡ name_word name (8 * (i - 3))
at_name name mol i low high = past_head i _ _ (omega arith) ∙ past i 3 _ _ low ∙ before i (atoms_from name) _ _ high

pub at_atom : (name : List ℕ) (mol : Molecule) (i : ℕ) → atoms_from name ≤ i → i < codes_from name mol → written name mol i ≡ atom_word (get_or mol.atoms (i - atoms_from name) no_atom)
at_atom name mol i low high =
    let order = in_order name mol in
    let a = order.atoms in
    past_head i _ _ (omega arith) ∙ past i 3 _ _ (omega arith) ∙ past i (atoms_from name) _ _ low ∙ before i (codes_from name mol) _ _ high

pub at_code : (name : List ℕ) (mol : Molecule) (i : ℕ) → codes_from name mol ≤ i → i < bonds_from name mol → written name mol i ≡ code_word mol (i - codes_from name mol)
at_code name mol i low high =
    let order = in_order name mol in
    let a = order.atoms in
    let b = order.codes in
    past_head i _ _ (omega arith) ∙ past i 3 _ _ (omega arith) ∙ past i (atoms_from name) _ _ (omega arith) ∙ past i (codes_from name mol) _ _ low ∙ before i (bonds_from name mol) _ _ high

pub at_bond : (name : List ℕ) (mol : Molecule) (i : ℕ) → bonds_from name mol ≤ i → written name mol i ≡ bond_word (get_or mol.bonds (i - bonds_from name mol) no_bond)
at_bond name mol i low =
    let order = in_order name mol in
    let a = order.atoms in
    let b = order.codes in
    let c = order.bonds in
    past_head i _ _ (omega arith) ∙ past i 3 _ _ (omega arith) ∙ past i (atoms_from name) _ _ (omega arith) ∙ past i (codes_from name mol) _ _ (omega arith) ∙ past i (bonds_from name mol) _ _ low

-- ---- the same, by the place in its part

pub nth_name : (name : List ℕ) (mol : Molecule) (k : ℕ) → k < (length name + 7) / 8 → written name mol (3 + k) ≡ name_word name (8 * k)
nth_name name mol k l = at_name name mol (3 + k) (omega arith) (omega arith) ∙ ap (λ n. name_word name (8 * n)) back
  where
    back : 3 + k - 3 ≡ k
    back = omega arith

pub nth_atom : (name : List ℕ) (mol : Molecule) (k : ℕ) → k < length mol.atoms → written name mol (atoms_from name + k) ≡ atom_word (get_or mol.atoms k no_atom)
nth_atom name mol k l = at_atom name mol (atoms_from name + k) (omega arith) (omega arith) ∙ ap (λ n. atom_word (get_or mol.atoms n no_atom)) (back (atoms_from name))
  where
    back : (n : ℕ) → n + k - n ≡ k
    back n = omega arith

pub nth_code : (name : List ℕ) (mol : Molecule) (k : ℕ) → k < 5 * length mol.atoms → written name mol (codes_from name mol + k) ≡ code_word mol k
nth_code name mol k l = at_code name mol (codes_from name mol + k) (omega arith) (omega arith) ∙ ap (code_word mol) (back (codes_from name mol))
  where
    back : (n : ℕ) → n + k - n ≡ k
    back n = omega arith

pub nth_bond : (name : List ℕ) (mol : Molecule) (k : ℕ) → written name mol (bonds_from name mol + k) ≡ bond_word (get_or mol.bonds k no_bond)
nth_bond name mol k = at_bond name mol (bonds_from name mol + k) (omega arith) ∙ ap (λ n. bond_word (get_or mol.bonds n no_bond)) (back (bonds_from name mol))
  where
    back : (n : ℕ) → n + k - n ≡ k
    back n = omega arith
