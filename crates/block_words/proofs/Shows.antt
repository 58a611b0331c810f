-- A written block shows its name and its molecule.
use Rattle.std.proofs.Common.{◌≡◌, ℕ, zero, suc, ◌+◌, ◌*◌, ◌/◌, ◌%◌, ◌^◌, ◌<◌, ◌≤◌, List, [], ◌∷◌, ◌++◌, length, get_or, take, refl, sym, ap, subst, ◌∙◌, arith}
use Rattle.std.proofs.Math.Seq.{take-suc, take-length}
use Rattle.std.proofs.Math.ListN.{get_or-eq_default}
use mathlib.Core.Logic.{dite}
use native.Mathlib.Decide.{dec_le}
use Rattle.htss_defs.specs.Name.{IsName}
use Rattle.htss_defs.specs.Molecule.{Molecule, IsMolecule}
use Rattle.htss_defs.specs.Marked.{IsMarked, no_bond}
use Rattle.htss_defs.specs.Codes.{no_atom, code_at}
use Rattle.board_core.specs.Blocks.{first_of, atoms_in, bonds_in, bytes_in, atom_words_at, code_words_at, bond_words_at, block_size, byte_of, atom_of, bond_of, name_in, molecule_in}
use Rattle.board_core.specs.Records.{IsRecord, code_word_at}
use Rattle.board_core.proofs.Shown.{same_first}
use Rattle.block_words.specs.Writing.{atoms_from, codes_from, bonds_from, size_of, head_word, code_word, written}
use Rattle.block_words.proofs.Fields.{atoms_back, bonds_back, bytes_back, atom_back, bond_back, AreBytes, byte_back}
use Rattle.block_words.proofs.Places.{in_order, nth_name, nth_atom, nth_code, nth_bond}

-- a list is made of its elements
pub first_take : {A : Type 0} (xs : List A) (d : A) (n : ℕ) → n ≤ length xs → first_of (λ i. get_or xs i d) n ≡ take n xs
first_take xs d zero l = refl
first_take xs d (suc n) l = ap (λ ys. ys ++ get_or xs n d ∷ []) (first_take xs d n (omega arith)) ∙ sym (take-suc xs n d (omega arith))

pub first_all : {A : Type 0} (xs : List A) (d : A) → first_of (λ i. get_or xs i d) (length xs) ≡ xs
first_all xs d = first_take xs d (length xs) (omega arith) ∙ take-length xs

-- a name's bytes are bytes, and so is the 0 past its end
pub bytes_of : (name : List ℕ) → IsName name → AreBytes name
bytes_of name is = record {
  at = λ i. dite (dec_le (length name) i)
      (λ out. let past = get_or-eq_default name 0 out in omega arith)
      (λ within. let most = (is.visible i 0 (omega arith)).1 in omega arith);
}

-- what the first word says
pub record HasHead (name : List ℕ) (mol : Molecule) (head : ℕ) : Type 0 where
  pub atoms : atoms_in head ≡ length mol.atoms
  pub bonds : bonds_in head ≡ length mol.bonds
  pub bytes : bytes_in head ≡ length name

pub head_is : (name : List ℕ) (mol : Molecule) (head : ℕ) → IsName name → IsMolecule mol → head ≡ head_word name mol → HasHead name mol head
head_is name mol head named is same =
    let few = is.atoms.1 in
    let bonds = is.bonds in
    let short = named.short in record {
      atoms = ap atoms_in same ∙ atoms_back (length mol.atoms) (length mol.bonds) (length name) (omega arith);
      bonds = ap bonds_in same ∙ bonds_back (length mol.atoms) (length mol.bonds) (length name) (omega arith) (omega arith);
      bytes = ap bytes_in same ∙ bytes_back (length mol.atoms) (length mol.bonds) (length name) (omega arith) (omega arith) (omega arith);
    }

-- where its parts begin
pub record HasPlaces (name : List ℕ) (mol : Molecule) (head : ℕ) : Type 0 where
  pub atoms : atom_words_at head ≡ atoms_from name
  pub codes : code_words_at head ≡ codes_from name mol
  pub bonds : bond_words_at head ≡ bonds_from name mol
  pub size : block_size head ≡ size_of name mol

pub places_are : (name : List ℕ) (mol : Molecule) (head : ℕ) → HasHead name mol head → HasPlaces name mol head
places_are name mol head has =
    let atoms = has.atoms in
    let bonds = has.bonds in
    let bytes = has.bytes in
    let names : (bytes_in head + 7) / 8 ≡ (length name + 7) / 8 = ap (λ n. (n + 7) / 8) bytes in
    let one : atom_words_at head ≡ atoms_from name = ap (λ n. 3 + n) names in
    let two : code_words_at head ≡ codes_from name mol = λ t. one t + atoms t in
    let three : bond_words_at head ≡ bonds_from name mol = λ t. two t + 5 * atoms t in
    record { atoms = one; codes = two; bonds = three; size = λ t. three t + bonds t }

-- the words of the block but its marks are those of the name and the molecule
pub record IsWritten (name : List ℕ) (mol : Molecule) (block : ℕ → ℕ) : Type 0 where
  pub head : block 0 ≡ written name mol 0
  pub words : (i : ℕ) → 3 ≤ i → i < size_of name mol → block i ≡ written name mol i

shown_byte : (name : List ℕ) (mol : Molecule) (block : ℕ → ℕ) (i : ℕ) → IsName name → IsWritten name mol block → i < length name → byte_of block i ≡ get_or name i 0
shown_byte name mol block i named is l =
    let order = in_order name mol in
    let codes = order.codes in
    let bonds = order.bonds in
    let size = order.size in
    let word = is.words (3 + i / 8) (omega arith) (omega arith) ∙ nth_name name mol (i / 8) (omega arith) in
    ap (λ w. w / 2 ^ (8 * (i % 8)) % 2 ^ 8) word ∙ byte_back name i (bytes_of name named)

shown_name : (name : List ℕ) (mol : Molecule) (block : ℕ → ℕ) → IsName name → IsWritten name mol block → HasHead name mol (block 0) → name_in block ≡ name
shown_name name mol block named is has =
    ap (first_of (byte_of block)) has.bytes
    ∙ same_first (λ i. get_or name i 0) (byte_of block) (length name) (λ i l. shown_byte name mol block i named is l)
    ∙ first_all name 0

shown_atom : (name : List ℕ) (mol : Molecule) (block : ℕ → ℕ) (i : ℕ) → IsMolecule mol → IsWritten name mol block → HasPlaces name mol (block 0) → i < length mol.atoms → atom_of (block (atom_words_at (block 0) + i)) ≡ get_or mol.atoms i no_atom
shown_atom name mol block i valid is at l =
    let order = in_order name mol in
    let bonds = order.bonds in
    let size = order.size in
    let word = is.words (atoms_from name + i) (omega arith) (omega arith) ∙ nth_atom name mol i l in
    ap (λ n. atom_of (block (n + i))) at.atoms ∙ ap atom_of word ∙ atom_back (get_or mol.atoms i no_atom) (valid.each_atom i no_atom l)

shown_bond : (name : List ℕ) (mol : Molecule) (block : ℕ → ℕ) (i : ℕ) → IsMolecule mol → IsWritten name mol block → HasPlaces name mol (block 0) → i < length mol.bonds → bond_of (block (bond_words_at (block 0) + i)) ≡ get_or mol.bonds i no_bond
shown_bond name mol block i valid is at l =
    let word = is.words (bonds_from name mol + i) (omega arith) (omega arith) ∙ nth_bond name mol i in
    ap (λ n. bond_of (block (n + i))) at.bonds ∙ ap bond_of word ∙ bond_back (length mol.atoms) (get_or mol.bonds i no_bond) valid.atoms.1 (valid.each_bond i no_bond l)

shown_molecule : (name : List ℕ) (mol : Molecule) (block : ℕ → ℕ) → IsMolecule mol → IsWritten name mol block → HasHead name mol (block 0) → HasPlaces name mol (block 0) → molecule_in block ≡ mol
shown_molecule name mol block valid is has at =
    let atoms : first_of (λ i. atom_of (block (atom_words_at (block 0) + i))) (atoms_in (block 0)) ≡ mol.atoms =
    ap (first_of (λ i. atom_of (block (atom_words_at (block 0) + i)))) has.atoms ∙ same_first (λ i. get_or mol.atoms i no_atom) (λ i. atom_of (block (atom_words_at (block 0) + i))) (length mol.atoms) (λ i l. shown_atom name mol block i valid is at l) ∙ first_all mol.atoms no_atom in
    let bonds : first_of (λ i. bond_of (block (bond_words_at (block 0) + i))) (bonds_in (block 0)) ≡ mol.bonds =
    ap (first_of (λ i. bond_of (block (bond_words_at (block 0) + i)))) has.bonds ∙ same_first (λ i. get_or mol.bonds i no_bond) (λ i. bond_of (block (bond_words_at (block 0) + i))) (length mol.bonds) (λ i l. shown_bond name mol block i valid is at l) ∙ first_all mol.bonds no_bond in
    λ t. record { atoms = atoms t; bonds = bonds t }

-- a code's place among the code words, and back
code_place : (mol : Molecule) (atom code : ℕ) → code < 5 → code_word mol (5 * atom + code) ≡ code_at mol code (atom + 1)
code_place mol atom code l = ap (λ k. code_at mol k ((5 * atom + code) / 5 + 1)) rest ∙ ap (λ n. code_at mol code (n + 1)) whole
  where
    rest : (5 * atom + code) % 5 ≡ code
    rest = omega arith

    whole : (5 * atom + code) / 5 ≡ atom
    whole = omega arith

shown_code : (name : List ℕ) (mol : Molecule) (block : ℕ → ℕ) (atom code : ℕ) → IsWritten name mol block → HasPlaces name mol (block 0) → atom < length mol.atoms → code < 5 → block (code_word_at (block 0) atom code) ≡ code_at mol code (atom + 1)
shown_code name mol block atom code is at la lc =
    let order = in_order name mol in
    let size = order.size in
    let within = within (length mol.atoms) la in
    ap (λ n. block (n + (5 * atom + code))) at.codes ∙ is.words (codes_from name mol + (5 * atom + code)) (omega arith) (omega arith) ∙ nth_code name mol (5 * atom + code) within ∙ code_place mol atom code lc
  where
    within : (atoms : ℕ) → atom < atoms → 5 * atom + code < 5 * atoms
    within atoms l = omega arith

-- what a written block shows
pub record ShowsRecord (mol_name : List ℕ) (mol : Molecule) (block : ℕ → ℕ) : Type 0 where
  pub size : block_size (block 0) ≡ size_of mol_name mol
  pub name : name_in block ≡ mol_name
  pub molecule : molecule_in block ≡ mol
  pub record_is : IsRecord block

-- whatever its marks are
pub past_marks_shows : (name : List ℕ) (mol : Molecule) (block : ℕ → ℕ) → IsName name → IsMolecule mol → IsMarked mol → IsWritten name mol block → ShowsRecord name mol block
past_marks_shows name mol block named valid marked is =
    let has = head_is name mol (block 0) named valid is.head in
    let at = places_are name mol (block 0) has in
    let shown = shown_name name mol block named is has in
    let molecule = shown_molecule name mol block valid is has at in
    let atoms = has.atoms in record {
      size = at.size;
      name = shown;
      molecule = molecule;
      record_is = record {
        name = subst IsName (sym shown) named;
        molecule = subst IsMolecule (sym molecule) valid;
        marked = subst (λ (m : Molecule). IsMarked m) (sym molecule) marked;
        codes = λ atom code la lc. shown_code name mol block atom code is at (omega arith) lc ∙ ap (λ m. code_at m code (atom + 1)) (sym molecule);
      };
    }

pub written_shows : (name : List ℕ) (mol : Molecule) (block : ℕ → ℕ) → IsName name → IsMolecule mol → IsMarked mol → ((i : ℕ) → i < size_of name mol → block i ≡ written name mol i) → ShowsRecord name mol block
written_shows name mol block named valid marked words =
    past_marks_shows name mol block named valid marked (record { head = words 0 (omega arith); words = λ i low high. words i high })
