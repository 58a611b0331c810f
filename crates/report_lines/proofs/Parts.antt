-- What is read of files, names, maps and refusals.
use Rattle.std.proofs.Common.{◌≡◌, ◌≢◌, ◌⊎◌, ◌↔◌, ℕ, ◌-◌, ◌^◌, ◌<◌, ◌≤◌, eqb, not, Bool, true, false, List, [], ◌∷◌, ◌++◌, length, cond, All, refl, sym, ap, ◌∙◌, inl, inr, arith}
use Rattle.std.specs.Prelude.{Option, Some, None, IsSome, IfSome, nat_le, ◌&&◌, slice_get, if◌then◌else◌}
use Rattle.std.specs.List.{list_all}
use Rattle.std.proofs.lemmas.Bool.{cases_Bool, cases_lt, cond-true, cond-false, ne_eqb, eqb-false}
use Rattle.std.proofs.lemmas.Option.{same_Some}
use Rattle.std.proofs.lemmas.List.{append-nil}
use Rattle.std.proofs.lemmas.List.Elements.{All-nil, All-cons, All-head, All-tail}
use lib.Chars.{codes}
use Rattle.htss_defs.specs.FileName.{IsFileName}
use Rattle.htss_defs.specs.Name.{IsName, IsVisible}
use Rattle.hit_report.specs.HitLines.{name_text}
use Rattle.hit_report.specs.RecordLines.{code_word, spaced}
use Rattle.report_text.specs.Values.{HasWord, IsRefusal}
use Rattle.report_lines.specs.Reader.{coded_at, file_at, is_file_name, is_name, is_only, is_printable, is_space, is_visible, label_at, name_at, named, refusal_at, word_at, word_back, word_front}
use Rattle.report_lines.proofs.WordsRead.{are_visible, label_reads, number_reads, stops, word_reads}

-- ---- files

all_visible : (word : List ℕ) → All (λ b. (33 ≤ b) × (b ≤ 126)) word → are_visible word ≡ true
all_visible [] all = refl
all_visible (b ∷ bs) all =
    let here = All-head (λ b. (33 ≤ b) × (b ≤ 126)) b bs all in
    let more = all_visible bs (All-tail (λ b. (33 ≤ b) × (b ≤ 126)) b bs all) in
    grind arith

visible_all : (word : List ℕ) → are_visible word ≡ true → All (λ b. (33 ≤ b) × (b ≤ 126)) word
visible_all [] all = All-nil (λ b. (33 ≤ b) × (b ≤ 126))
visible_all (b ∷ bs) all = All-cons (λ b. (33 ≤ b) × (b ≤ 126)) b bs (grind arith, grind arith) (visible_all bs (grind arith))

pub made_file_name : (word : List ℕ) → IsFileName word → is_file_name word ≡ true
unfolding is_file_name
made_file_name word is = let long = is.long in grind arith

pub file_name_made : (word : List ℕ) → are_visible word ≡ true → is_file_name word ≡ true → IsFileName word
unfolding is_file_name
file_name_made word seen is = record { long = (grind arith, grind arith); visible = visible_all word seen }

front_seen : (text : List ℕ) → are_visible (word_front text) ≡ true
front_seen [] = refl
front_seen (b ∷ bs) = go (cases_Bool (is_visible b)) (front_seen bs)
  where
    go : (is_visible b ≡ true) ⊎ (is_visible b ≡ false) → are_visible (word_front bs) ≡ true → are_visible (word_front (b ∷ bs)) ≡ true
    go (inl seen) more = rw seen (rw (seen, more) refl)
    go (inr other) more = rw other refl

same_front : (x y : List ℕ × List ℕ) → Some x ≡ Some y → x.0 ≡ y.0
same_front x y is = ap (λ (p : List ℕ × List ℕ). p.0) (same_Some x y is)

pub word_seen : (text : List ℕ) (x : List ℕ × List ℕ) → Some x ≡ word_at text → are_visible x.0 ≡ true
unfolding word_at
word_seen [] x is = absurd cc
word_seen (b ∷ bs) x is = go (cases_Bool (eqb b 32))
  where
    go : (eqb b 32 ≡ true) ⊎ (eqb b 32 ≡ false) → are_visible x.0 ≡ true
    go (inl space) =
        ap are_visible (same_front x (word_front bs, word_back bs) (is ∙ cond-true (eqb b 32) (Some (word_front bs, word_back bs)) None space)) ∙ front_seen bs
    go (inr other) =
        let none : Some x ≡ None = is ∙ cond-false (eqb b 32) (Some (word_front bs, word_back bs)) None other in
        absurd cc

pub file_reads : (file rest : List ℕ) → IsFileName file → stops rest ≡ true → file_at (32 ∷ file ++ rest) ≡ Some (file, rest)
unfolding file_at
file_reads file rest is end = rw (word_reads file rest (all_visible file is.visible) end, made_file_name file is) refl

-- ---- names

all_printable : (name : List ℕ) → All IsVisible name → list_all is_printable name ≡ true
all_printable [] all = refl
all_printable (b ∷ bs) all =
    let here = All-head IsVisible b bs all in
    let more = all_printable bs (All-tail IsVisible b bs all) in
    grind arith

printable_all : (name : List ℕ) → list_all is_printable name ≡ true → All IsVisible name
printable_all [] all = All-nil IsVisible
printable_all (b ∷ bs) all = All-cons IsVisible b bs (grind arith, grind arith) (printable_all bs (grind arith))

no_space : (o : Option ℕ) → o ≢ Some 32 → is_space o ≡ false
no_space None other = refl
no_space (Some b) other = ne_eqb b 32 (λ e. other (ap Some e))

space_no : (o : Option ℕ) → is_space o ≡ false → o ≢ Some 32
space_no None other = λ e. cc
space_no (Some b) other = λ e. let same : b ≡ 32 = cc in eqb-false b 32 other same

pub made_name : (name : List ℕ) → IsName name → is_name name ≡ true
unfolding is_name
made_name name is =
    let seen = all_printable name is.visible in
    let short = is.short in
    let first = no_space (slice_get name 0) is.no_space_first in
    let last = no_space (slice_get name (length name - 1)) is.no_space_last in
    grind arith

pub name_made : (name : List ℕ) → is_name name ≡ true → IsName name
unfolding is_name
name_made name is = record {
  short = grind arith;
  visible = printable_all name (grind arith);
  no_space_first = space_no (slice_get name 0) (grind arith);
  no_space_last = space_no (slice_get name (length name - 1)) (grind arith);
}

-- what `Name::new` makes of the bytes
pub named_is : (name : List ℕ) (o : Option (List ℕ)) → IsSome o ↔ IsName name → IfSome o (λ n. n ≡ name) → o ≡ named name
unfolding named
named_is name None valid value = go (cases_Bool (is_name name))
  where
    go : (is_name name ≡ true) ⊎ (is_name name ≡ false) → None ≡ (if is_name name then Some name else None)
    go (inl is) = absurd (let some = valid.1 (name_made name is) in cc)
    go (inr other) = sym (cond-false (is_name name) (Some name) None other)
named_is name (Some n) valid value = ap Some value ∙ sym (cond-true (is_name name) (Some name) None (made_name name (valid.0 refl)))

pub name_reads : (name : List ℕ) → IsName name → name_at (name_text name) ≡ Some name
unfolding name_at named
name_reads [] is = rw (made_name [] is) refl
name_reads (b ∷ bs) is = rw (made_name (b ∷ bs) is) (grind arith)

pub name_stops : (name : List ℕ) → stops (name_text name) ≡ true
name_stops [] = refl
name_stops (b ∷ bs) = refl

-- ---- refusals

-- the codes and their words, as a table
abbrev Row : Type 0
Row = ℕ × List ℕ

abbrev word_in : List Row → ℕ → List ℕ
word_in [] code = []
word_in (row ∷ rows) code = cond (eqb code row.0) row.1 (word_in rows code)

abbrev rows : List Row
rows = (1, codes "Counts") ∷ (2, codes "Version") ∷ (3, codes "Stext") ∷ (4, codes "AtomLine") ∷ (5, codes "Symbol") ∷ (6, codes "Charge") ∷ (7, codes "BondLine") ∷ (8, codes "BondAtom") ∷ (9, codes "BondType") ∷ (10, codes "BondTwice") ∷ (11, codes "Property") ∷ (12, codes "NoEnd") ∷ (13, codes "LongLine") ∷ (14, codes "Empty") ∷ (20, codes "TooLarge") ∷ (21, codes "List") ∷ (22, codes "Topology") ∷ []

abbrev is_fit : Row → Bool
is_fit row = nat_le row.0 255 && are_visible row.1

visible_in : (rows : List Row) (code : ℕ) → list_all is_fit rows ≡ true → are_visible (word_in rows code) ≡ true
visible_in [] code fit = refl
visible_in (row ∷ rows) code fit = go (eqb code row.0) (visible_in rows code (grind arith))
  where
    go : (b : Bool) → are_visible (word_in rows code) ≡ true → are_visible (cond b row.1 (word_in rows code)) ≡ true
    go true more = grind arith
    go false more = more

none_in : (rows : List Row) (code : ℕ) → 255 < code → list_all is_fit rows ≡ true → word_in rows code ≡ []
none_in [] code great fit = refl
none_in (row ∷ rows) code great fit =
    let low : row.0 ≤ 255 = grind arith in
    cond-false (eqb code row.0) row.1 (word_in rows code) (ne_eqb code row.0 (λ e. omega arith)) ∙ none_in rows code great (grind arith)

word_visible : (code : ℕ) → are_visible (code_word code) ≡ true
word_visible code = visible_in rows code refl

no_word : (code : ℕ) → 255 < code → code_word code ≡ []
no_word code great = none_in rows code great refl

pub small_code : (code : ℕ) → HasWord code → code ≤ 255
small_code code is = go (cases_lt 255 code)
  where
    go : (255 < code) ⊎ (code ≤ 255) → code ≤ 255
    go (inl great) = absurd (is (no_word code great))
    go (inr small) = small

some_word : (word : List ℕ) → word ≢ [] → not (eqb (length word) 0) ≡ true
some_word [] other = absurd (other refl)
some_word (b ∷ bs) other = grind arith

pub not_empty : (word : List ℕ) → not (eqb (length word) 0) ≡ true → word ≢ []
not_empty [] other = absurd cc
not_empty (b ∷ bs) other = λ e. cc

label_alone : (label : List ℕ) → are_visible label ≡ true → label_at label (32 ∷ label) ≡ Some []
label_alone label visible = ap (λ (text : List ℕ). label_at label (32 ∷ text)) (sym (append-nil label)) ∙ label_reads label [] visible refl

only_reads : (label : List ℕ) → label ≢ [] → are_visible label ≡ true → is_only label (32 ∷ label) ≡ true
unfolding is_only
only_reads label some visible = rw (some_word label some, label_alone label visible) refl

pub coded_reads : (code : ℕ) → HasWord code → coded_at code (32 ∷ code_word code) ≡ Some code
unfolding coded_at
coded_reads code is = cond-true (is_only (code_word code) (32 ∷ code_word code)) (Some code) None (only_reads (code_word code) is (word_visible code))

pub refusal_reads : (line code : ℕ) → IsRefusal line code → refusal_at (spaced line ++ (spaced code ++ 32 ∷ code_word code)) ≡ Some (line, code)
unfolding refusal_at
refusal_reads line code is =
    rw (
      number_reads (2 ^ 64 - 1) line (spaced code ++ 32 ∷ code_word code) (omega arith) (omega (arith, is.0)) refl,
      number_reads 255 code (32 ∷ code_word code) (omega arith) (small_code code is.1) refl,
      coded_reads code is.1,
    ) refl
