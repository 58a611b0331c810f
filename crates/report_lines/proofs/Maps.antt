-- What is read of maps.
use Rattle.std.proofs.Common.{◌≡◌, ◌≢◌, ℕ, ◌+◌, ◌-◌, ◌<◌, ◌≤◌, eqb, Bool, true, false, List, [], ◌∷◌, ◌++◌, length, map, get_or, take, drop, All, refl, sym, ap, ◌∙◌, arith}
use Rattle.std.specs.Prelude.{Some, None, option_map, nat_le, decimal}
use Rattle.std.specs.List.{flat_map, count_by}
use Rattle.std.specs.Str.Parse.{AllDigits}
use Rattle.std.proofs.lemmas.Bool.{ne_eqb, cond-false}
use Rattle.std.proofs.lemmas.List.{append-nil, drop_more, get_or-take, length-map, length-drop, length-take-le, take_all, take-append-drop}
use Rattle.std.proofs.lemmas.List.Elements.{All-nil, All-cons, All-from_get_or, All-head, All-tail}
use Rattle.std.proofs.lemmas.List.Folds.{list_all-append}
use Rattle.std.proofs.lemmas.List.Splits.{length-slice_split, slice_split_at, slice_split_none}
use Rattle.std.proofs.lemmas.Fmt.{decimal_is_IsNumeral}
use Rattle.hit_report.specs.HitLines.{map_text}
use Rattle.report_text.specs.Values.{IsU16}
use Rattle.report_lines.specs.Reader.{is_visible, map_at, parts_of, place_of, places_in, places_of}
use Rattle.report_lines.proofs.WordsRead.{are_visible, decimal_visible, numeral_reads, stops, word_reads}

abbrev pub IsPlace : ℕ → Type 0
IsPlace place = (1 ≤ place) × IsU16 place

abbrev is_comma : ℕ → Bool
is_comma b = eqb b 44

digits_apart : (word : List ℕ) → AllDigits 10 word → All (λ b. is_comma b ≡ false) word
digits_apart [] all = All-nil (λ b. is_comma b ≡ false)
digits_apart (b ∷ bs) all = All-cons (λ b. is_comma b ≡ false) b bs (let here = all.0 in grind arith) (digits_apart bs all.1)

apart : (place : ℕ) → IsPlace place → All (λ b. is_comma b ≡ false) (decimal place)
apart place is = digits_apart (decimal place) (decimal_is_IsNumeral place (omega (arith, is.1))).0.1

abbrev others : List ℕ → List ℕ
others places = flat_map (λ x. 44 ∷ decimal x) places

parts : (place : ℕ) (places : List ℕ) → All IsPlace (place ∷ places) → parts_of (map_text (place ∷ places)) ≡ map decimal (place ∷ places)
parts place [] all = ap parts_of (append-nil (decimal place)) ∙ slice_split_none is_comma (decimal place) (apart place (All-head IsPlace place [] all))
parts place (next ∷ places) all =
    slice_split_at is_comma (decimal place) 44 (map_text (next ∷ places)) (apart place (All-head IsPlace place (next ∷ places) all)) refl
    ∙ ap (λ (l : List (List ℕ)). decimal place ∷ l) (parts next places (All-tail IsPlace place (next ∷ places) all))

place_reads : (place : ℕ) → IsPlace place → place_of (decimal place) ≡ Some place
unfolding place_of
place_reads place is = rw (numeral_reads 65535 place (omega arith) (omega (arith, is.1)), ne_eqb place 0 (λ e. omega (arith, e, is.0))) refl

places_read : (places : List ℕ) → All IsPlace places → places_in (map decimal places) ≡ Some places
places_read [] all = refl
places_read (place ∷ places) all = rw (place_reads place (All-head IsPlace place places all), places_read places (All-tail IsPlace place places all)) refl

others_visible : (places : List ℕ) → All IsPlace places → are_visible (others places) ≡ true
others_visible [] all = refl
others_visible (place ∷ places) all =
    let here = decimal_visible place (omega (arith, (All-head IsPlace place places all).1)) in
    let more = others_visible places (All-tail IsPlace place places all) in
    list_all-append is_visible (decimal place) (others places) ∙ rw (here, more) refl

pub map_visible : (places : List ℕ) → All IsPlace places → are_visible (map_text places) ≡ true
map_visible [] all = refl
map_visible (place ∷ places) all = others_visible (place ∷ places) all

places_reads : (places : List ℕ) → 1 ≤ length places → length places ≤ 64 → All IsPlace places → places_of (map_text places) ≡ Some places
unfolding places_of
places_reads [] some few all = absurd (omega arith)
places_reads (place ∷ places) some few all =
    let size : length (map decimal (place ∷ places)) ≡ length (place ∷ places) = length-map (place ∷ places) decimal in
    rw (parts place places all, places_read (place ∷ places) all) (grind arith)

pub map_reads : (places rest : List ℕ) → 1 ≤ length places → length places ≤ 64 → All IsPlace places → stops rest ≡ true → map_at (32 ∷ map_text places ++ rest) ≡ Some (places, rest)
unfolding map_at
map_reads places rest some few all end = rw (word_reads (map_text places) rest (map_visible places all) end, places_reads places some few all) refl

-- ---- how far a map is read

parts_apart : (text : List ℕ) → ((k : ℕ) → k < length text → get_or text k 0 ≢ 44) → All (λ b. is_comma b ≡ false) text
parts_apart text none = All-from_get_or (λ b. is_comma b ≡ false) text 0 (λ k within. ne_eqb (get_or text k 0) 44 (none k within))

pub last_part : (text : List ℕ) → ((k : ℕ) → k < length text → get_or text k 0 ≢ 44) → parts_of text ≡ text ∷ []
last_part text none = slice_split_none is_comma text (parts_apart text none)

pub rest_of : (text : List ℕ) (n : ℕ) → n ≤ length text → take (length text - n) (drop n text) ≡ drop n text
rest_of text n within = take_all (length text - n) (drop n text) (omega (arith, length-drop n text))

pub next_part : (text : List ℕ) (i : ℕ) → i < length text → get_or text i 0 ≡ 44 → ((k : ℕ) → k < i → get_or text k 0 ≢ 44) → parts_of text ≡ take i text ∷ parts_of (drop (i + 1) text)
next_part text i within comma none =
    let size : length (take i text) ≡ i = length-take-le i text (omega arith) in
    let behind : drop i text ≡ 44 ∷ drop (i + 1) text = drop_more text i 0 within ∙ ap (λ (b : ℕ). b ∷ drop (i + 1) text) comma in
    let whole : text ≡ take i text ++ 44 ∷ drop (i + 1) text = sym (take-append-drop i text) ∙ ap (λ (x : List ℕ). take i text ++ x) behind in
    let others_in : All (λ b. is_comma b ≡ false) (take i text) = parts_apart (take i text) (λ k lt e. none k (omega arith) (sym (get_or-take i text k 0 (omega arith)) ∙ e)) in
    ap parts_of whole ∙ slice_split_at is_comma (take i text) 44 (drop (i + 1) text) others_in refl

-- so many places were read, and this is left
pub record IsReadTo (word left places : List ℕ) (n : ℕ) : Type 0 where
  pub whole : option_map (λ more. places ++ more) (places_in (parts_of left)) ≡ places_in (parts_of word)
  pub count : length (parts_of word) ≡ n + length (parts_of left)
  pub size : length places ≡ n

pub too_many : (word left places : List ℕ) (n : ℕ) → IsReadTo word left places n → 64 ≤ n → None ≡ places_of word
unfolding places_of
too_many word left places n read full =
    let some : length (parts_of left) ≡ count_by is_comma left + 1 = length-slice_split is_comma left in
    let many : 64 < length (parts_of word) = omega (arith, read.count, some) in
    sym (cond-false (nat_le (length (parts_of word)) 64) (places_in (parts_of word)) None (grind arith))
