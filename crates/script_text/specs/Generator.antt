-- The generated file of records (this project's own).
use Rattle.std.specs.Prelude.{◌≡◌, ℕ, zero, suc, ◌+◌, ◌-◌, ◌*◌, ◌/◌, ◌%◌, ◌^◌, List, [], ◌∷◌, ◌++◌, Option, ◌==◌}
use Rattle.std.specs.Prelude.{nat_le, nat_lt, if◌then◌else◌, decimal}
use Rattle.std.specs.List.{flat_map}
use Rattle.std.specs.Io.KnownBytes.{append_known}
use lib.Chars.{codes}
use Rattle.script_text.specs.declared.growing.Grown.{Grown}

-- ---- draws

-- the state after a draw from this state
unfoldable pub next_state : ℕ → ℕ
next_state state = (state * 6364136223846793005 + 1442695040888963407) % 2 ^ 64

-- what the draw gives that left this state
unfoldable pub drawn : ℕ → ℕ
drawn state = state / 2 ^ 33

-- ---- atoms

-- the letter of the element that a draw chooses: carbon for 0 to 5, then nitrogen, oxygen, sulfur, fluorine
abbrev pub letter : ℕ → ℕ
letter draw =
    if nat_le (draw % 10) 5 then 67
    else (if draw % 10 == 6 then 78
    else (if draw % 10 == 7 then 79
    else (if draw % 10 == 8 then 83
    else 70)))

-- the parent of the atom i that a draw chooses, from atom 9 on
abbrev pub drawn_parent : ℕ → ℕ → ℕ
drawn_parent i draw = if draw % 2 == 0 then i - 1 else i - 2

-- the atom i, from 7 on, that is drawn from this state: its element first, then its parent
abbrev pub grown : ℕ → ℕ → Grown
grown i state =
    if nat_lt i 9
    then (record { number = i; letter = letter (drawn (next_state state)); parent = i - 1 })
    else (record {
      number = i;
      letter = letter (drawn (next_state state));
      parent = drawn_parent i (drawn (next_state (next_state state)));
    })

-- the state after it
abbrev pub grown_state : ℕ → ℕ → ℕ
grown_state i state = if nat_lt i 9 then next_state state else next_state (next_state state)

-- so many atoms from the atom i on, and the state after them
abbrev pub tree_from : ℕ → ℕ → ℕ → List Grown
tree_from zero i state = []
tree_from (suc n) i state = grown i state ∷ tree_from n (i + 1) (grown_state i state)

abbrev pub tree_state : ℕ → ℕ → ℕ → ℕ
tree_state zero i state = state
tree_state (suc n) i state = tree_state n (i + 1) (grown_state i state)

-- the tree that is drawn from this state, atoms 7 to 25, and the state after it
unfoldable pub tree_of : ℕ → List Grown
tree_of state = tree_from 19 7 state

unfoldable pub after_tree : ℕ → ℕ
after_tree state = tree_state 19 7 state

-- ---- the text

abbrev pub ring_atoms : List ℕ
ring_atoms = codes "    0.0000    0.0000    0.0000 C   0  0\n    0.0000    0.0000    0.0000 C   0  0\n    0.0000    0.0000    0.0000 C   0  0\n    0.0000    0.0000    0.0000 C   0  0\n    0.0000    0.0000    0.0000 C   0  0\n    0.0000    0.0000    0.0000 C   0  0\n"

abbrev pub ring_bonds : List ℕ
ring_bonds = codes "  1  2  1  0\n  2  3  2  0\n  3  4  1  0\n  4  5  2  0\n  5  6  1  0\n  6  1  2  0\n"

-- a number of one or two digits in three columns
unfoldable pub padded : ℕ → List ℕ
padded number = if nat_lt number 10 then 32 ∷ 32 ∷ decimal number else 32 ∷ decimal number

unfoldable pub atom_line : Grown → List ℕ
atom_line atom = codes "    0.0000    0.0000    0.0000 " ++ atom.letter ∷ codes "   0  0\n"

unfoldable pub bond_line : Grown → List ℕ
bond_line atom = padded atom.parent ++ padded atom.number ++ codes "  1  0\n"

-- the record with this number, whose ring has this tree
unfoldable pub record_text : ℕ → List Grown → List ℕ
record_text number tree =
    codes "made " ++ decimal number ++ codes "\n\n\n 25 25  0  0  0  0  0  0  0  0999 V2000\n"
    ++ ring_atoms ++ flat_map atom_line tree ++ ring_bonds ++ flat_map bond_line tree ++ codes "M  END\n$$$$\n"

-- so many records from the record with this number on
abbrev pub records_from : ℕ → ℕ → ℕ → List ℕ
records_from zero number state = []
records_from (suc n) number state = record_text number (tree_of state) ++ records_from n (number + 1) (after_tree state)

-- the file of so many records from this seed
unfoldable pub made_file : ℕ → ℕ → List ℕ
made_file count seed = records_from count 1 seed

-- ---- how far the file is written

-- the front of the whole text was appended, and this much is left
pub record IsMadeTo (old now : Option (List ℕ)) (whole left : List ℕ) : Type 0 where
  pub done : List ℕ
  pub written : now ≡ append_known old done
  pub rest : whole ≡ done ++ left
