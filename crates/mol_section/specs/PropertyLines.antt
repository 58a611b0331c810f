-- What a property line does to the atoms.
use Rattle.std.specs.Prelude.{nat_le, ℕ, ◌-◌, ℤ, pos, List, [], ◌∷◌, length, map, fold, Option, None, Some}
use Rattle.std.specs.Prelude.{option_and_then, unwrap_or, Bool, ◌||◌, slice_set, slice_index_or}
use Rattle.std.specs.Prelude.{if◌then◌else◌}
use lib.Chars.{codes}
use Rattle.htss_defs.specs.declared.mol.Atom.{Atom}
use Rattle.mol_section.specs.Fields.{begins, number_of}
use Rattle.mol_section.specs.SectionLines.{is_place, line_entries, listed_charge}
use Rattle.mol_section.specs.SectionLines.{listed_mass, lists_charges, lists_masses}

-- the number of entries, and the words after it
unfoldable pub count_at : List (List ℕ) → Option (ℕ × List (List ℕ))
count_at [] = None
count_at (count ∷ words) = option_and_then (λ n. if nat_le n 8 then Some (n, words) else None) (number_of count)

-- a place among so many atoms, and the words after it
unfoldable pub place_at : ℕ → List (List ℕ) → Option (ℕ × List (List ℕ))
place_at atoms [] = None
place_at atoms (place ∷ words) = option_and_then (λ p. if is_place atoms p then Some (p, words) else None)
    (number_of place)

-- a value, and the words after it
unfoldable pub value_at : {V : Type 0} → (List ℕ → Option V) → List (List ℕ) → Option (V × List (List ℕ))
value_at value [] = None
value_at value (word ∷ words) = option_and_then (λ v. Some (v, words)) (value word)

-- an entry, and the words after it
unfoldable pub entry_at : {V : Type 0} → (List ℕ → Option V) → ℕ → List (List ℕ) → Option (ℕ × V × List (List ℕ))
entry_at value atoms words =
    option_and_then (λ p. option_and_then (λ v. Some (p.0, v.0, v.1)) (value_at value p.1)) (place_at atoms words)

abbrev pub no_atom : Atom
no_atom = record { element = 0; charge = pos 0; mass = 0 }

abbrev pub atom_at : List Atom → ℕ → Atom
atom_at atoms place = slice_index_or atoms (place - 1) no_atom

abbrev pub put_charge : List Atom → ℕ × ℤ → List Atom
put_charge atoms (place, charge) = slice_set atoms (place - 1) (record (atom_at atoms place) { charge = charge })

abbrev pub put_mass : List Atom → ℕ × ℕ → List Atom
put_mass atoms (place, mass) = slice_set atoms (place - 1) (record (atom_at atoms place) { mass = mass })

abbrev pub no_charge : Atom → Atom
no_charge atom = record atom { charge = pos 0 }

-- the line sets aside the charges of the atom block
abbrev pub sets_aside : List ℕ → Bool
sets_aside line = lists_charges line || begins line (codes "M  RAD")

-- the entries of a line, if it is of the sort that has them
abbrev pub entries_if : {V : Type 0} → Bool → Option (List (ℕ × V)) → List (ℕ × V)
entries_if is_of entries = if is_of then unwrap_or entries [] else []

-- the atoms without the charges of the atom block, if this line is the first to set them aside
unfoldable pub set_aside : Bool → List ℕ → List Atom → List Atom
set_aside aside line atoms = if aside then atoms else (if sets_aside line then map no_charge atoms else atoms)

unfoldable pub put_charges : List ℕ → List Atom → List Atom
put_charges line atoms =
    fold put_charge atoms (entries_if (lists_charges line) (line_entries listed_charge (length atoms) line))

unfoldable pub put_masses : List ℕ → List Atom → List Atom
put_masses line atoms =
    fold put_mass atoms (entries_if (lists_masses line) (line_entries listed_mass (length atoms) line))

-- the atoms after a property line
abbrev pub with_property : Bool → List ℕ → List Atom → List Atom
with_property aside line atoms = put_masses line (put_charges line (set_aside aside line atoms))
