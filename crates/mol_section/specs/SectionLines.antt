-- What each line of a section is, and which are refused. (CTfile Formats, "The Header Block", "The Counts Line", "The
-- Atom Block", "The Bond Block", "The Atom List Block", "The Properties Block". The refusals and their numbers are this
-- project's own.)
use Rattle.std.specs.Prelude.{ℕ, zero, suc, ◌+◌, ◌-◌, ℤ, pos, negsuc, List, [], ◌∷◌, ◌++◌, length, take, drop, map}
use Rattle.std.specs.Prelude.{replicate, slice_index_or, Option, None, Some, option_and_then, unwrap_or, Bool, true}
use Rattle.std.specs.Prelude.{false, not, is_some, int_le, ◌&&◌, ◌||◌, ◌==◌, nat_le, nat_lt, if◌then◌else◌}
use Rattle.std.specs.List.{list_any, position}
use Rattle.std.specs.Str.{bytes_eq}
use lib.Chars.{codes}
use Rattle.htss_defs.specs.Elements.{symbols}
use Rattle.htss_defs.specs.declared.graph.Ends.{Ends}
use Rattle.htss_defs.specs.Graph.{joins}
use Rattle.mol_section.specs.Fields.{field, begins, are_digits, value_of, count_of, number_of, signed_of, words_of}

-- the lines of a section, without the line that ends it; line i is counted from 0
abbrev pub line_at : List (List ℕ) → ℕ → List ℕ
line_at lines i = slice_index_or lines i []

-- ---- the counts line

abbrev pub atoms_field : List ℕ → Option ℕ
atoms_field line = count_of (field 1 3 line)

abbrev pub bonds_field : List ℕ → Option ℕ
bonds_field line = count_of (field 4 6 line)

abbrev pub lists_field : List ℕ → Option ℕ
lists_field line = count_of (field 7 9 line)

abbrev pub stext_field : List ℕ → Option ℕ
stext_field line = count_of (field 16 18 line)

-- the numbers of atoms, bonds and atom lists that a section's counts line gives
abbrev pub atom_count : List (List ℕ) → ℕ
atom_count lines = unwrap_or (atoms_field (line_at lines 3)) 0

abbrev pub bond_count : List (List ℕ) → ℕ
bond_count lines = unwrap_or (bonds_field (line_at lines 3)) 0

abbrev pub list_count : List (List ℕ) → ℕ
list_count lines = unwrap_or (lists_field (line_at lines 3)) 0

-- ---- what each line is

pub data Kind : Type 0 where
  header : Kind
  counts : Kind
  atom : Kind
  bond : Kind
  atom_list : Kind
  property : Kind
  passed_over : Kind
  end_mark : Kind
  after_end : Kind

-- the line after it is passed over
abbrev pub passes_next : List ℕ → Bool
passes_next line = begins line (codes "A  ") || begins line (codes "G  ")

-- the kinds of the lines after the blocks; `passed` says that the first is passed over
abbrev pub kinds_after : Bool → List (List ℕ) → List Kind
kinds_after passed [] = []
kinds_after true (line ∷ rest) = passed_over ∷ kinds_after false rest
kinds_after false (line ∷ rest) =
    if begins line (codes "M  END") then end_mark ∷ map (λ _. after_end) rest
    else (if passes_next line then passed_over ∷ kinds_after true rest
    else property ∷ kinds_after false rest)

-- the kinds of the lines of the blocks, however many of them stand there
abbrev pub block_kinds : List (List ℕ) → List Kind
block_kinds lines = replicate 3 header ++ counts ∷ replicate (atom_count lines) atom
    ++ replicate (bond_count lines) bond ++ replicate (list_count lines) atom_list

-- the kind of each line
abbrev pub kinds_of : List (List ℕ) → List Kind
kinds_of lines = let blocks = block_kinds lines in take (length lines) blocks ++ kinds_after false
    (drop (length blocks) lines)

-- the bond lines before line i
abbrev pub bond_lines_before : List (List ℕ) → ℕ → List (List ℕ)
bond_lines_before lines i = let first = 4 + atom_count lines in take (i - first) (drop first lines)

-- ---- the refusals

-- the code of the first test that fails
abbrev pub first_code : List (Bool × ℕ) → Option ℕ
first_code [] = None
first_code ((holds, code) ∷ tests) = if holds then first_code tests else Some code

abbrev pub counts_refusal : List ℕ → Option ℕ
counts_refusal line = first_code ((
  is_some (atoms_field line) && is_some (bonds_field line) && is_some (lists_field line)
      && is_some (stext_field line),
  1,
)
    ∷ (length (field 34 39 line) == 0 || bytes_eq (field 34 39 line) (codes "V2000"), 2)
    ∷ (unwrap_or (stext_field line) 0 == 0, 3)
    ∷ (not (unwrap_or (atoms_field line) 0 == 0), 14)
    ∷ [])

-- the element and the mass of a symbol: D and T are hydrogen of mass 2 and 3
unfoldable pub symbol_value : List ℕ → Option (ℕ × ℕ)
symbol_value symbol =
    if bytes_eq symbol (codes "D") then Some (1, 2)
    else (if bytes_eq symbol (codes "T") then Some (1, 3)
    else option_and_then (λ i. Some (i + 1, 0)) (position (λ s. bytes_eq s symbol) symbols))

-- the charge of a charge code: blank is 0, else a digit by value
unfoldable pub charge_value : List ℕ → Option ℤ
charge_value text =
    let code = if length text == 0 then 0 else (if are_digits text then value_of text else 8) in
    if code == 0 || code == 4 then Some (pos 0)
    else (if code == 1 then Some (pos 3)
    else (if code == 2 then Some (pos 2)
    else (if code == 3 then Some (pos 1)
    else (if code == 5 then Some (negsuc 0)
    else (if code == 6 then Some (negsuc 1)
    else (if code == 7 then Some (negsuc 2)
    else None))))))

abbrev pub atom_refusal : List ℕ → Option ℕ
atom_refusal line = first_code (
    (not (length (field 32 34 line) == 0), 4)
    ∷ (is_some (symbol_value (field 32 34 line)), 5)
    ∷ (is_some (charge_value (field 37 39 line)), 6)
    ∷ [])

abbrev pub bond_first : List ℕ → ℕ
bond_first line = unwrap_or (number_of (field 1 3 line)) 0

abbrev pub bond_second : List ℕ → ℕ
bond_second line = unwrap_or (number_of (field 4 6 line)) 0

abbrev pub bond_kind : List ℕ → ℕ
bond_kind line = unwrap_or (number_of (field 7 9 line)) 0

abbrev pub ends_of : List ℕ → Ends
ends_of line = record { first = bond_first line; second = bond_second line }

abbrev pub is_place : ℕ → ℕ → Bool
is_place atoms n = nat_le 1 n && nat_le n atoms

abbrev pub bond_refusal : ℕ → List (List ℕ) → List ℕ → Option ℕ
bond_refusal atoms earlier line = first_code ((
  is_some (number_of (field 1 3 line)) && is_some (number_of (field 4 6 line))
      && is_some (number_of (field 7 9 line)),
  7,
)
    ∷ (
      is_place atoms (bond_first line) && is_place atoms (bond_second line)
          && not (bond_first line == bond_second line),
      8,
    )
    ∷ (nat_le 1 (bond_kind line) && nat_le (bond_kind line) 4, 9)
    ∷ (not (list_any (λ other. joins (ends_of other) (bond_first line) (bond_second line)) earlier), 10)
    ∷ [])

-- the entries of a property line: so many pairs of an atom and a value
abbrev pub entries : {V : Type 0} → (List ℕ → Option V) → ℕ → ℕ → List (List ℕ) → Option (List (ℕ × V))
entries value atoms zero words = Some []
entries value atoms (suc n) (place ∷ word ∷ words) =
    option_and_then (λ p. option_and_then
    (λ v. option_and_then (λ rest. Some ((p, v) ∷ rest)) (entries value atoms n words)) (value word))
    (option_and_then (λ p. if is_place atoms p then Some p else None) (number_of place))
entries value atoms (suc n) _ = None

abbrev pub listed_entries : {V : Type 0} → (List ℕ → Option V) → ℕ → List (List ℕ) → Option (List (ℕ × V))
listed_entries value atoms [] = None
listed_entries value atoms (count ∷ words) =
    option_and_then (λ n. if nat_le n 8 then entries value atoms n words else None) (number_of count)

-- the entries that the line gives; further words are passed over
unfoldable pub line_entries : {V : Type 0} → (List ℕ → Option V) → ℕ → List ℕ → Option (List (ℕ × V))
line_entries value atoms line = listed_entries value atoms (words_of (drop 6 line))

-- a listed charge is -15 to 15, a listed mass 0 to 999
unfoldable pub listed_charge : List ℕ → Option ℤ
listed_charge word = option_and_then (λ c. if int_le (negsuc 14) c && int_le c (pos 15) then Some c else None)
    (signed_of word)

unfoldable pub listed_mass : List ℕ → Option ℕ
listed_mass word = number_of word

abbrev pub lists_charges : List ℕ → Bool
lists_charges line = begins line (codes "M  CHG")

abbrev pub lists_masses : List ℕ → Bool
lists_masses line = begins line (codes "M  ISO")

abbrev pub property_refusal : ℕ → List ℕ → Option ℕ
property_refusal atoms line = first_code (
    (not (lists_charges line) || is_some (line_entries listed_charge atoms line), 11)
    ∷ (not (lists_masses line) || is_some (line_entries listed_mass atoms line), 11)
    ∷ [])

-- the refusal of a line of this kind, but for its length
abbrev pub kind_refusal : List (List ℕ) → ℕ → Kind → Option ℕ
kind_refusal lines i counts = counts_refusal (line_at lines i)
kind_refusal lines i atom = atom_refusal (line_at lines i)
kind_refusal lines i bond = bond_refusal (atom_count lines) (bond_lines_before lines i) (line_at lines i)
kind_refusal lines i property = property_refusal (atom_count lines) (line_at lines i)
kind_refusal lines i _ = None

-- each line up to the end mark, whatever it is, has at most 4096 bytes
abbrev pub refusal : List (List ℕ) → ℕ → Kind → Option ℕ
refusal lines i after_end = None
refusal lines i kind = if nat_lt 4096 (length (line_at lines i)) then Some 13 else kind_refusal lines i kind
