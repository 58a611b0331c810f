-- The words of the block of a name and a molecule, as `Blocks` of board_core reads them.
use Rattle.std.specs.Prelude.{ℕ, ◌+◌, ◌-◌, ◌*◌, ◌/◌, ◌%◌, ◌^◌, ◌==◌, List, length, nat_lt, slice_index, slice_index_or}
use Rattle.std.specs.Prelude.{if◌then◌else◌, pos, ◌+ℤ◌, nat_abs}
use Rattle.htss_defs.specs.declared.mol.Atom.{Atom}
use Rattle.htss_defs.specs.declared.mol.Bond.{Bond}
use Rattle.htss_defs.specs.Molecule.{Molecule}
use Rattle.htss_defs.specs.Marked.{no_bond}
use Rattle.htss_defs.specs.Codes.{no_atom, code_at}

-- the place of the first atom word, of the first code word and of the first bond word, and the number of words
abbrev pub atoms_from : List ℕ → ℕ
atoms_from name = 3 + (length name + 7) / 8

abbrev pub codes_from : List ℕ → Molecule → ℕ
codes_from name mol = atoms_from name + length mol.atoms

abbrev pub bonds_from : List ℕ → Molecule → ℕ
bonds_from name mol = codes_from name mol + 5 * length mol.atoms

abbrev pub size_of : List ℕ → Molecule → ℕ
size_of name mol = bonds_from name mol + length mol.bonds

-- the numbers of atoms, bonds and bytes
abbrev pub head_word : List ℕ → Molecule → ℕ
head_word name mol = length mol.atoms + 2 ^ 10 * length mol.bonds + 2 ^ 20 * length name

-- the eight bytes from the place `from` on, the first lowest, and 0 for each past the end
unfoldable pub name_word : List ℕ → ℕ → ℕ
name_word name from =
    slice_index name from
    + 2 ^ 8 * slice_index name (from + 1)
    + 2 ^ 16 * slice_index name (from + 2)
    + 2 ^ 24 * slice_index name (from + 3)
    + 2 ^ 32 * slice_index name (from + 4)
    + 2 ^ 40 * slice_index name (from + 5)
    + 2 ^ 48 * slice_index name (from + 6)
    + 2 ^ 56 * slice_index name (from + 7)

abbrev pub atom_word : Atom → ℕ
atom_word atom = atom.element + 2 ^ 8 * nat_abs (atom.charge +ℤ pos 128) + 2 ^ 16 * atom.mass

abbrev pub bond_word : Bond → ℕ
bond_word bond = bond.first + 2 ^ 16 * bond.second + 2 ^ 32 * bond.kind + 2 ^ 40 * (if bond.ring then 1 else 0)

-- code word k: atoms and codes count from 0
abbrev pub code_word : Molecule → ℕ → ℕ
code_word mol k = code_at mol (k % 5) (k / 5 + 1)

-- the word at place i
abbrev pub written : List ℕ → Molecule → ℕ → ℕ
written name mol i =
    if i == 0 then head_word name mol
    else (if nat_lt i 3 then 0
    else (if nat_lt i (atoms_from name) then name_word name (8 * (i - 3))
    else (if nat_lt i (codes_from name mol) then atom_word (slice_index_or mol.atoms (i - atoms_from name) no_atom)
    else (if nat_lt i (bonds_from name mol) then code_word mol (i - codes_from name mol)
    else bond_word (slice_index_or mol.bonds (i - bonds_from name mol) no_bond)))))
