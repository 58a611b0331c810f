-- The code of a refusal has a word.
use Rattle.std.proofs.Common.{◌≡◌, ◌≢◌, inl, inr, ℕ, ◌+◌, Bool, true, false, List, [], ◌∷◌, length, All, refl, sym, subst}
use Rattle.std.specs.Prelude.{Option, Some, None, Err, is_some, not, unwrap_or, nat_le, nat_lt, ◌==◌, ◌&&◌, ◌||◌, if◌then◌else◌}
use Rattle.std.specs.List.{list_any}
use Rattle.std.specs.Str.{bytes_eq}
use lib.Chars.{codes}
use Rattle.htss_defs.specs.Graph.{joins}
use Rattle.std.proofs.lemmas.Bool.{false≢true}
use Rattle.std.proofs.lemmas.List.Elements.{All-cons, All-head, All-nil, All-tail}
use Rattle.hit_report.specs.RecordLines.{code_word}
use Rattle.mol_section.specs.SectionLines.{Kind, header, counts, atom, bond, atom_list, property, passed_over, end_mark, after_end, first_code, line_at, counts_refusal, kind_refusal, refusal}
use Rattle.mol_section.specs.Fields.{field, number_of}
use Rattle.mol_section.specs.SectionLines.{atom_count, atoms_field, bonds_field, lists_field, stext_field, atom_refusal, symbol_value, charge_value}
use Rattle.mol_section.specs.SectionLines.{bond_refusal, bond_lines_before, bond_first, bond_second, bond_kind, ends_of, is_place}
use Rattle.mol_section.specs.SectionLines.{property_refusal, lists_charges, lists_masses, line_entries, listed_charge, listed_mass}
use Rattle.mol_section.specs.SectionRecord.{Outcome, accepted, refused, IsOutcome}
use Rattle.ctfile.specs.RecordList.{AreOutcomes, IsRecordList}
use Rattle.query_mol.specs.QueryLines.{is_query_symbol, query_atom_refusal, query_bond_refusal, query_property_refusal, topology_value, is_new_list, new_list_of, old_list_of}
use Rattle.query_mol.specs.QueryRecord.{lacks_list, query_kind_refusal, query_refusal, IsRefusedQuery}
use Rattle.query_mol.specs.QueryOutcome.{IsFirstQueryOutcome}
use Rattle.report_text.specs.Values.{HasWord}

abbrev is_empty : List ℕ → Bool
is_empty [] = true
is_empty (byte ∷ text) = false

some : (text : List ℕ) → is_empty text ≡ false → text ≢ []
some [] long is = false≢true (sym long)
some (byte ∷ text) long is = absurd cc

-- the codes that a test of a line may give
abbrev Has : Bool × ℕ → Type 0
Has test = HasWord test.1

more : (holds : Bool) (code : ℕ) (tests : List (Bool × ℕ)) → HasWord code → All Has tests → All Has ((holds, code) ∷ tests)
more holds code tests word all = All-cons Has (holds, code) tests word all

first_has : (tests : List (Bool × ℕ)) (code : ℕ) → All Has tests → first_code tests ≡ Some code → HasWord code
first_has [] code all is = absurd cc
first_has ((holds, own) ∷ tests) code all is = go (λ rest. first_has tests code (All-tail Has (holds, own) tests all) rest) holds is
  where
    go : (first_code tests ≡ Some code → HasWord code) → (b : Bool) → (if b then first_code tests else Some own) ≡ Some code → HasWord code
    go later true rest = later rest
    go later false here = let same : own ≡ code = cc here in subst HasWord same (All-head Has (holds, own) tests all)

-- ---- records

long_or : (long : Bool) (rest : Option ℕ) (code : ℕ) → (rest ≡ Some code → HasWord code) → (if long then Some 13 else rest) ≡ Some code → HasWord code
long_or true rest code has is = let same : 13 ≡ code = cc is in subst HasWord same (some _ refl)
long_or false rest code has is = has is

-- which codes tests give
of_two : (a b : Bool) (p q code : ℕ) → HasWord p → HasWord q → first_code ((a, p) ∷ (b, q) ∷ []) ≡ Some code → HasWord code
of_two a b p q code one two is = first_has ((a, p) ∷ (b, q) ∷ []) code (more a p ((b, q) ∷ []) one (more b q [] two (All-nil Has))) is

of_three : (a b c : Bool) (p q r code : ℕ) → HasWord p → HasWord q → HasWord r → first_code ((a, p) ∷ (b, q) ∷ (c, r) ∷ []) ≡ Some code → HasWord code
of_three a b c p q r code one two three is =
    first_has ((a, p) ∷ (b, q) ∷ (c, r) ∷ []) code (more a p ((b, q) ∷ (c, r) ∷ []) one (more b q ((c, r) ∷ []) two (more c r [] three (All-nil Has)))) is

of_four : (a b c d : Bool) (p q r s code : ℕ) → HasWord p → HasWord q → HasWord r → HasWord s → first_code ((a, p) ∷ (b, q) ∷ (c, r) ∷ (d, s) ∷ []) ≡ Some code → HasWord code
of_four a b c d p q r s code one two three four is =
    first_has ((a, p) ∷ (b, q) ∷ (c, r) ∷ (d, s) ∷ []) code
    (more a p ((b, q) ∷ (c, r) ∷ (d, s) ∷ []) one (more b q ((c, r) ∷ (d, s) ∷ []) two (more c r ((d, s) ∷ []) three (more d s [] four (All-nil Has))))) is

of_five : (a b c d e : Bool) (p q r s t code : ℕ) → HasWord p → HasWord q → HasWord r → HasWord s → HasWord t → first_code ((a, p) ∷ (b, q) ∷ (c, r) ∷ (d, s) ∷ (e, t) ∷ []) ≡ Some code → HasWord code
of_five a b c d e p q r s t code one two three four five is =
    first_has ((a, p) ∷ (b, q) ∷ (c, r) ∷ (d, s) ∷ (e, t) ∷ []) code
    (more a p ((b, q) ∷ (c, r) ∷ (d, s) ∷ (e, t) ∷ []) one (more b q ((c, r) ∷ (d, s) ∷ (e, t) ∷ []) two
    (more c r ((d, s) ∷ (e, t) ∷ []) three (more d s ((e, t) ∷ []) four (more e t [] five (All-nil Has)))))) is

counts_has : (line : List ℕ) (code : ℕ) → counts_refusal line ≡ Some code → HasWord code
counts_has line code is =
    of_four (is_some (atoms_field line) && is_some (bonds_field line) && is_some (lists_field line) && is_some (stext_field line)) (length (field 34 39 line) == 0 || bytes_eq (field 34 39 line) (codes "V2000"))
    (unwrap_or (stext_field line) 0 == 0) (not (unwrap_or (atoms_field line) 0 == 0))
    1 2 3 14 code (some _ refl) (some _ refl) (some _ refl) (some _ refl) is

atom_has : (line : List ℕ) (code : ℕ) → atom_refusal line ≡ Some code → HasWord code
atom_has line code is =
    of_three (not (length (field 32 34 line) == 0)) (is_some (symbol_value (field 32 34 line))) (is_some (charge_value (field 37 39 line)))
    4 5 6 code (some _ refl) (some _ refl) (some _ refl) is

bond_has : (atoms : ℕ) (earlier : List (List ℕ)) (line : List ℕ) (code : ℕ) → bond_refusal atoms earlier line ≡ Some code → HasWord code
bond_has atoms earlier line code is =
    of_four (is_some (number_of (field 1 3 line)) && is_some (number_of (field 4 6 line)) && is_some (number_of (field 7 9 line)))
    (is_place atoms (bond_first line) && is_place atoms (bond_second line) && not (bond_first line == bond_second line))
    (nat_le 1 (bond_kind line) && nat_le (bond_kind line) 4)
    (not (list_any (λ other. joins (ends_of other) (bond_first line) (bond_second line)) earlier))
    7 8 9 10 code (some _ refl) (some _ refl) (some _ refl) (some _ refl) is

property_has : (atoms : ℕ) (line : List ℕ) (code : ℕ) → property_refusal atoms line ≡ Some code → HasWord code
property_has atoms line code is =
    of_two (not (lists_charges line) || is_some (line_entries listed_charge atoms line)) (not (lists_masses line) || is_some (line_entries listed_mass atoms line))
    11 11 code (some _ refl) (some _ refl) is

kind_has : (lines : List (List ℕ)) (i : ℕ) (kind : Kind) (code : ℕ) → kind_refusal lines i kind ≡ Some code → HasWord code
kind_has lines i header code is = absurd cc
kind_has lines i counts code is = counts_has (line_at lines i) code is
kind_has lines i atom code is = atom_has (line_at lines i) code is
kind_has lines i bond code is = bond_has (atom_count lines) (bond_lines_before lines i) (line_at lines i) code is
kind_has lines i atom_list code is = absurd cc
kind_has lines i property code is = property_has (atom_count lines) (line_at lines i) code is
kind_has lines i passed_over code is = absurd cc
kind_has lines i end_mark code is = absurd cc
kind_has lines i after_end code is = absurd cc

refusal_has : (lines : List (List ℕ)) (i : ℕ) (kind : Kind) (code : ℕ) → refusal lines i kind ≡ Some code → HasWord code
refusal_has lines i header code is = long_or _ _ code (kind_has lines i header code) is
refusal_has lines i counts code is = long_or _ _ code (kind_has lines i counts code) is
refusal_has lines i atom code is = long_or _ _ code (kind_has lines i atom code) is
refusal_has lines i bond code is = long_or _ _ code (kind_has lines i bond code) is
refusal_has lines i atom_list code is = long_or _ _ code (kind_has lines i atom_list code) is
refusal_has lines i property code is = long_or _ _ code (kind_has lines i property code) is
refusal_has lines i passed_over code is = long_or _ _ code (kind_has lines i passed_over code) is
refusal_has lines i end_mark code is = long_or _ _ code (kind_has lines i end_mark code) is
refusal_has lines i after_end code is = absurd cc

-- a record that is refused is so with a code that has a word
abbrev pub HasItsWord : Outcome → Type 0
HasItsWord (accepted name mol) = Unit {0}
HasItsWord (refused line code) = HasWord code

outcome_has : (first : ℕ) (section : List (List ℕ)) (outcome : Outcome) → IsOutcome first section outcome → HasItsWord outcome
outcome_has first section (accepted name mol) is = tt
outcome_has first section (refused line code) (i, at, inl here) = refusal_has section i here.here.0 code here.here.2
outcome_has first section (refused line code) (i, at, inr none) = subst HasWord (sym none.code_is) (some (code_word 12) refl)

outcomes_have : (first : ℕ) (sections : List (List (List ℕ))) (outcomes : List Outcome) → AreOutcomes first sections outcomes → All HasItsWord outcomes
outcomes_have first [] outcomes none = subst (All HasItsWord) (sym none) (All-nil HasItsWord)
outcomes_have first (section ∷ sections) [] are = absurd are
outcomes_have first (section ∷ sections) (outcome ∷ outcomes) are =
    All-cons HasItsWord outcome outcomes (outcome_has first section outcome are.0) (outcomes_have (first + length section + 1) sections outcomes are.1)

pub records_have : (bytes : List ℕ) (outcomes : List Outcome) → IsRecordList bytes outcomes → All HasItsWord outcomes
records_have bytes outcomes are = outcomes_have 1 _ outcomes are.are_outcomes

-- ---- queries

either_or : (has : Bool) (first second : Option ℕ) (code : ℕ) → (first ≡ Some code → HasWord code) → (second ≡ Some code → HasWord code) → (if has then first else second) ≡ Some code → HasWord code
either_or true first second code one other is = one is
either_or false first second code one other is = other is

none_has : (code : ℕ) → None ≡ Some code → HasWord code
none_has code is = absurd cc

too_large : (code : ℕ) → Some 20 ≡ Some code → HasWord code
too_large code is = let same : 20 ≡ code = cc is in subst HasWord same (some _ refl)

listed : (code : ℕ) → Some 21 ≡ Some code → HasWord code
listed code is = let same : 21 ≡ code = cc is in subst HasWord same (some _ refl)

query_atom_has : (line : List ℕ) (code : ℕ) → query_atom_refusal line ≡ Some code → HasWord code
query_atom_has line code is =
    of_three (not (length (field 32 34 line) == 0)) (is_query_symbol (field 32 34 line) || is_some (symbol_value (field 32 34 line))) (is_some (charge_value (field 37 39 line)))
    4 5 6 code (some _ refl) (some _ refl) (some _ refl) is

query_bond_has : (atoms : ℕ) (earlier : List (List ℕ)) (line : List ℕ) (code : ℕ) → query_bond_refusal atoms earlier line ≡ Some code → HasWord code
query_bond_has atoms earlier line code is =
    of_five (is_some (number_of (field 1 3 line)) && is_some (number_of (field 4 6 line)) && is_some (number_of (field 7 9 line)))
    (is_place atoms (bond_first line) && is_place atoms (bond_second line) && not (bond_first line == bond_second line))
    (nat_le 1 (bond_kind line) && nat_le (bond_kind line) 8)
    (not (list_any (λ other. joins (ends_of other) (bond_first line) (bond_second line)) earlier))
    (is_some (topology_value (field 16 18 line)))
    7 8 9 10 22 code (some _ refl) (some _ refl) (some _ refl) (some _ refl) (some _ refl) is

query_property_has : (atoms : ℕ) (line : List ℕ) (code : ℕ) → query_property_refusal atoms line ≡ Some code → HasWord code
query_property_has atoms line code is =
    of_two (not (is_some (property_refusal atoms line))) (not (is_new_list line) || is_some (new_list_of atoms line)) 11 21 code (some _ refl) (some _ refl) is

query_kind_has : (lines : List (List ℕ)) (i : ℕ) (kind : Kind) (code : ℕ) → query_kind_refusal lines i kind ≡ Some code → HasWord code
query_kind_has lines i header code is = absurd cc
query_kind_has lines i counts code is =
    either_or (is_some (counts_refusal (line_at lines i))) (counts_refusal (line_at lines i)) (if nat_lt 64 (atom_count lines) then Some 20 else None) code
    (counts_has (line_at lines i) code) (either_or (nat_lt 64 (atom_count lines)) (Some 20) None code (too_large code) (none_has code)) is
query_kind_has lines i atom code is = query_atom_has (line_at lines i) code is
query_kind_has lines i bond code is = query_bond_has (atom_count lines) (bond_lines_before lines i) (line_at lines i) code is
query_kind_has lines i atom_list code is = either_or (is_some (old_list_of (atom_count lines) (line_at lines i))) None (Some 21) code (none_has code) (listed code) is
query_kind_has lines i property code is = query_property_has (atom_count lines) (line_at lines i) code is
query_kind_has lines i passed_over code is = absurd cc
query_kind_has lines i end_mark code is = either_or (lacks_list lines) (Some 21) None code (listed code) (none_has code) is
query_kind_has lines i after_end code is = absurd cc

query_refusal_has : (lines : List (List ℕ)) (i : ℕ) (kind : Kind) (code : ℕ) → query_refusal lines i kind ≡ Some code → HasWord code
query_refusal_has lines i header code is = long_or _ _ code (query_kind_has lines i header code) is
query_refusal_has lines i counts code is = long_or _ _ code (query_kind_has lines i counts code) is
query_refusal_has lines i atom code is = long_or _ _ code (query_kind_has lines i atom code) is
query_refusal_has lines i bond code is = long_or _ _ code (query_kind_has lines i bond code) is
query_refusal_has lines i atom_list code is = long_or _ _ code (query_kind_has lines i atom_list code) is
query_refusal_has lines i property code is = long_or _ _ code (query_kind_has lines i property code) is
query_refusal_has lines i passed_over code is = long_or _ _ code (query_kind_has lines i passed_over code) is
query_refusal_has lines i end_mark code is = long_or _ _ code (query_kind_has lines i end_mark code) is
query_refusal_has lines i after_end code is = absurd cc

refused_has : (lines : List (List ℕ)) (line code : ℕ) → IsRefusedQuery lines line code → HasWord code
refused_has lines line code (i, at, inl here) = query_refusal_has lines i here.here.0 code here.here.2
refused_has lines line code (i, at, inr none) = subst HasWord (sym none.code_is) (some (code_word 12) refl)

pub query_has : (bytes : List ℕ) (line code : ℕ) → IsFirstQueryOutcome bytes (Err (record { line = line; code = code })) → HasWord code
query_has bytes line code is = refused_has is.section line code is.is
