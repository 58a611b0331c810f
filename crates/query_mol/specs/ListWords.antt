-- Atom lists by words, as the reader takes them.
use Rattle.std.specs.Prelude.{ℕ, ◌^◌, List, ◌∷◌, Option, None, Some, Bool, true, false, bit_or}
use Rattle.query_mol.specs.declared.lists.Listed.{Listed}
use Rattle.query_mol.specs.QueryLines.{AtomList, element_number, element_symbol}
use Rattle.query_mol.specs.QueryRecord.{set_of}

-- the first three words, and those after them
unfoldable pub three : List (List ℕ) → Option (List ℕ × List ℕ × List ℕ × List (List ℕ))
three (a ∷ b ∷ c ∷ words) = Some (a, b, c, words)
three _ = None

unfoldable pub element_value : Bool → List ℕ → Option ℕ
element_value true word = element_symbol word
element_value false word = element_number word

abbrev pub with_element : ℕ → ℕ → ℕ
with_element set element = bit_or set (2 ^ element)

-- an atom list as the reader keeps it
abbrev pub listed_of : AtomList → Listed
listed_of one = record { place = one.place; excludes = one.excludes; elements = record { 0 = set_of one.elements } }
