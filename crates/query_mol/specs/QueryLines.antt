-- What each line of a query's section says, and which are refused: as in a record, but for the symbols, the bond types,
-- the topology and the atom lists. (CTfile Formats, "The Atom Block" for A, Q, * and L, "The Bond Block" for query bond
-- types 5 to 8 and topology, "The Atom List Block" and the property `M  ALS`. That list lines are read by words, and the
-- refusals with their numbers, is this project's own.)
use Rattle.std.specs.Prelude.{ℕ, zero, suc, ◌+◌, List, [], ◌∷◌, length, drop, Option, None, Some, option_and_then}
use Rattle.std.specs.Prelude.{is_some}
use Rattle.std.specs.Prelude.{Bool, true, false, not, ◌&&◌, ◌||◌, ◌==◌, nat_le, if◌then◌else◌}
use Rattle.std.specs.List.{list_any, position}
use Rattle.std.specs.Str.{bytes_eq}
use lib.Chars.{codes}
use Rattle.htss_defs.specs.Elements.{symbols}
use Rattle.htss_defs.specs.Graph.{joins}
use Rattle.mol_section.specs.Fields.{field, begins, are_digits, value_of, number_of, words_of}
use Rattle.mol_section.specs.SectionLines.{ends_of, bond_first, bond_second, bond_kind}
use Rattle.mol_section.specs.SectionLines.{first_code, symbol_value, charge_value, is_place, property_refusal}

-- ---- symbols

-- A is any atom but hydrogen, Q any but carbon and hydrogen, * any, L an atom list
abbrev pub is_query_symbol : List ℕ → Bool
is_query_symbol symbol = bytes_eq symbol (codes "A") || bytes_eq symbol (codes "Q") || bytes_eq symbol (codes "*")
    || bytes_eq symbol (codes "L")

abbrev pub query_atom_refusal : List ℕ → Option ℕ
query_atom_refusal line = first_code (
    (not (length (field 32 34 line) == 0), 4)
    ∷ (is_query_symbol (field 32 34 line) || is_some (symbol_value (field 32 34 line)), 5)
    ∷ (is_some (charge_value (field 37 39 line)), 6)
    ∷ [])

-- ---- bonds

-- the topology of a topology field: blank is 0, else digits by value
abbrev pub topology_value : List ℕ → Option ℕ
topology_value text =
    if length text == 0 then Some 0
    else (if are_digits text && nat_le (value_of text) 2 then Some (value_of text) else None)

abbrev pub query_bond_refusal : ℕ → List (List ℕ) → List ℕ → Option ℕ
query_bond_refusal atoms earlier line = first_code ((
  is_some (number_of (field 1 3 line)) && is_some (number_of (field 4 6 line))
      && is_some (number_of (field 7 9 line)),
  7,
)
    ∷ (
      is_place atoms (bond_first line) && is_place atoms (bond_second line)
          && not (bond_first line == bond_second line),
      8,
    )
    ∷ (nat_le 1 (bond_kind line) && nat_le (bond_kind line) 8, 9)
    ∷ (not (list_any (λ other. joins (ends_of other) (bond_first line) (bond_second line)) earlier), 10)
    ∷ (is_some (topology_value (field 16 18 line)), 22)
    ∷ [])

-- ---- atom lists

-- an atom list: its atom, whether it excludes, and its elements
pub record AtomList : Type 0 where
  pub place : ℕ
  pub excludes : Bool
  pub elements : List ℕ

-- T excludes, F does not
abbrev pub excludes_value : List ℕ → Option Bool
excludes_value word = if bytes_eq word (codes "T") then Some true else
    (if bytes_eq word (codes "F") then Some false else None)

-- an atomic number, 1 to 118
abbrev pub element_number : List ℕ → Option ℕ
element_number word = option_and_then (λ n. if nat_le 1 n && nat_le n 118 then Some n else None) (number_of word)

-- the element of a symbol of the table, D and T not among them
abbrev pub element_symbol : List ℕ → Option ℕ
element_symbol word = option_and_then (λ i. Some (i + 1)) (position (λ s. bytes_eq s word) symbols)

-- the elements that so many first words name; further words are passed over
abbrev pub elements_of : (List ℕ → Option ℕ) → ℕ → List (List ℕ) → Option (List ℕ)
elements_of value zero words = Some []
elements_of value (suc n) [] = None
elements_of value (suc n) (word ∷ words) =
    option_and_then (λ e. option_and_then (λ rest. Some (e ∷ rest)) (elements_of value n words)) (value word)

abbrev pub place_word : ℕ → List ℕ → Option ℕ
place_word atoms word = option_and_then (λ p. if is_place atoms p then Some p else None) (number_of word)

abbrev pub count_word : ℕ → List ℕ → Option ℕ
count_word most word = option_and_then (λ n. if nat_le 1 n && nat_le n most then Some n else None) (number_of word)

-- an old list line: the whole line is words: atom, T or F, 1 to 5, so many atomic numbers
abbrev pub old_list : ℕ → List (List ℕ) → Option AtomList
old_list atoms (place ∷ letter ∷ count ∷ words) =
    option_and_then (λ p. option_and_then (λ x. option_and_then (λ n.
    option_and_then (λ es. Some (record { place = p; excludes = x; elements = es }))
    (elements_of element_number n words)) (count_word 5 count)) (excludes_value letter)) (place_word atoms place)
old_list atoms _ = None

-- an `M  ALS` line: the words after its first six bytes: atom, 1 to 16, T or F, so many symbols
abbrev pub new_list : ℕ → List (List ℕ) → Option AtomList
new_list atoms (place ∷ count ∷ letter ∷ words) =
    option_and_then (λ p. option_and_then (λ n. option_and_then (λ x.
    option_and_then (λ es. Some (record { place = p; excludes = x; elements = es }))
    (elements_of element_symbol n words)) (excludes_value letter)) (count_word 16 count)) (place_word atoms place)
new_list atoms _ = None

abbrev pub old_list_of : ℕ → List ℕ → Option AtomList
old_list_of atoms line = old_list atoms (words_of line)

abbrev pub is_new_list : List ℕ → Bool
is_new_list line = begins line (codes "M  ALS")

abbrev pub new_list_of : ℕ → List ℕ → Option AtomList
new_list_of atoms line = new_list atoms (words_of (drop 6 line))

abbrev pub query_property_refusal : ℕ → List ℕ → Option ℕ
query_property_refusal atoms line = first_code (
    (not (is_some (property_refusal atoms line)), 11)
    ∷ (not (is_new_list line) || is_some (new_list_of atoms line), 21)
    ∷ [])
