-- What a block's words show: a name and a marked molecule. A block is given as the function of its words, counted from
-- 0. Word 0 has the numbers of atoms, bonds and bytes; word 1 and word 2 are the marks; then come the name, the atoms,
-- five code words for each atom, and the bonds.
use Rattle.std.specs.Prelude.{ℕ, zero, suc, ◌+◌, ◌*◌, ◌/◌, ◌%◌, ◌^◌, ◌==◌, pos, ◌-ℤ◌, List, [], ◌∷◌, ◌++◌}
use Rattle.htss_defs.specs.declared.mol.Atom.{Atom}
use Rattle.htss_defs.specs.declared.mol.Bond.{Bond}
use Rattle.htss_defs.specs.Molecule.{Molecule}

abbrev pub atoms_in : ℕ → ℕ
atoms_in head = head % 2 ^ 10

abbrev pub bonds_in : ℕ → ℕ
bonds_in head = head / 2 ^ 10 % 2 ^ 10

abbrev pub bytes_in : ℕ → ℕ
bytes_in head = head / 2 ^ 20 % 2 ^ 7

-- the place of the first atom word, of the first code word, and of the first bond word; and the number of words
abbrev pub atom_words_at : ℕ → ℕ
atom_words_at head = 3 + (bytes_in head + 7) / 8

abbrev pub code_words_at : ℕ → ℕ
code_words_at head = atom_words_at head + atoms_in head

abbrev pub bond_words_at : ℕ → ℕ
bond_words_at head = code_words_at head + 5 * atoms_in head

abbrev pub block_size : ℕ → ℕ
block_size head = bond_words_at head + bonds_in head

-- the marks of a block
abbrev pub shown_at : ℕ
shown_at = 1

abbrev pub ended_at : ℕ
ended_at = 2

-- f of the first n places
abbrev pub first_of : {A : Type 0} → (ℕ → A) → ℕ → List A
first_of f zero = []
first_of f (suc n) = first_of f n ++ f n ∷ []

abbrev pub byte_of : (ℕ → ℕ) → ℕ → ℕ
byte_of block i = block (3 + i / 8) / 2 ^ (8 * (i % 8)) % 2 ^ 8

abbrev pub atom_of : ℕ → Atom
atom_of word = record {
  element = word % 2 ^ 8;
  charge = pos (word / 2 ^ 8 % 2 ^ 8) -ℤ pos 128;
  mass = word / 2 ^ 16 % 2 ^ 16;
}

abbrev pub bond_of : ℕ → Bond
bond_of word = record {
  first = word % 2 ^ 16;
  second = word / 2 ^ 16 % 2 ^ 16;
  kind = word / 2 ^ 32 % 2 ^ 8;
  ring = word / 2 ^ 40 % 2 == 1;
}

abbrev pub name_in : (ℕ → ℕ) → List ℕ
name_in block = first_of (byte_of block) (bytes_in (block 0))

abbrev pub molecule_in : (ℕ → ℕ) → Molecule
molecule_in block = record {
  atoms = first_of (λ i. atom_of (block (atom_words_at (block 0) + i))) (atoms_in (block 0));
  bonds = first_of (λ i. bond_of (block (bond_words_at (block 0) + i))) (bonds_in (block 0));
}
