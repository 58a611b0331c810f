-- The five codes of an atom: counts over ever wider neighbourhoods (this project's own).
-- A code is a word of eight lanes of one byte, lane 0 the lowest. A count stops at 255.
use Rattle.std.specs.Prelude.{ℕ, ◌-◌, ◌*◌, ◌/◌, ◌%◌, ◌^◌, [], ◌∷◌, sum_by, min, leb, slice_index_or, if◌then◌else◌}
use Rattle.std.specs.Prelude.{Bool, true, not, ◌==◌, ◌&&◌, ◌||◌, pos}
use Rattle.std.specs.List.{count_by, range_with_len}
use Rattle.htss_defs.specs.declared.mol.Atom.{Atom}
use Rattle.htss_defs.specs.declared.mol.Bond.{Bond}
use Rattle.htss_defs.specs.declared.codes.Codes.{Codes}
use Rattle.htss_defs.specs.Molecule.{Molecule, molecule_graph, bond_ends}
use Rattle.htss_defs.specs.Distances.{count_within, is_end, degree}

-- lane i of a word
abbrev pub lane : ℕ → ℕ → ℕ
lane word i = (word / 256 ^ i) % 256

-- the word of eight counts
unfoldable pub word_of : (ℕ → ℕ) → ℕ
word_of count = sum_by (λ i. min (count i) 255 * 256 ^ i) (range_with_len 0 8)

-- the elements that lanes 1 to 6 count: all but hydrogen; carbon; nitrogen; oxygen; sulfur; F, Cl, Br and I
abbrev pub is_of_kind : ℕ → ℕ → Bool
is_of_kind i element =
    if i == 1 then not (element == 1)
    else (if i == 2 then element == 6
    else (if i == 3 then element == 7
    else (if i == 4 then element == 8
    else (if i == 5 then element == 16
    else element == 9 || element == 17 || element == 35 || element == 53))))

abbrev pub no_atom : Atom
no_atom = record { element = 0; charge = pos 0; mass = 0 }

abbrev pub element_at : Molecule → ℕ → ℕ
element_at m x = (slice_index_or m.atoms (x - 1) no_atom).element

-- the number of bonds at x that pass a test
unfoldable pub bonds_at : Molecule → ℕ → (Bond → Bool) → ℕ
bonds_at m x test = count_by (λ b. is_end (bond_ends b) x && test b) m.bonds

-- lanes of code 0: the element, the degree, the numbers of bonds of type 2, 3 and 4, and of ring bonds
-- (the molecule is marked)
abbrev pub own_lane : Molecule → ℕ → ℕ → ℕ
own_lane m x i =
    if i == 0 then element_at m x
    else (if i == 1 then degree (molecule_graph m) x
    else (if i == 5 then bonds_at m x (λ b. b.ring)
    else (if leb i 4 then bonds_at m x (λ b. b.kind == i)
    else 0)))

-- the atom at y counts in lane i of the codes 1 to 4: in lane 0 each, in lanes 1 to 6 by its element, in lane 7
-- where its degree is 3 or more
abbrev pub counts_in : Molecule → ℕ → ℕ → Bool
counts_in m i y =
    if i == 0 then true
    else (if i == 7 then leb 3 (degree (molecule_graph m) y)
    else is_of_kind i (element_at m y))

-- lanes of code k, for k = 1 to 4: the atoms within distance k
abbrev pub near_lane : Molecule → ℕ → ℕ → ℕ → ℕ
near_lane m k x i = count_within (molecule_graph m) k x (counts_in m i)

unfoldable pub code_at : Molecule → ℕ → ℕ → ℕ
code_at m k x = word_of (if k == 0 then own_lane m x else near_lane m k x)

-- the codes of the atom at x
abbrev pub codes_at : Molecule → ℕ → Codes
codes_at m x = record { words = code_at m 0 x ∷ code_at m 1 x ∷ code_at m 2 x ∷ code_at m 3 x ∷ code_at m 4 x ∷ [] }
