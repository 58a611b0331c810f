-- What is read at the front of words, numbers and labels that are followed by a space or the LF.
use Rattle.std.proofs.Common.{◌≡◌, ℕ, ◌^◌, ◌<◌, ◌≤◌, not, Bool, true, false, zero, suc, get_or, take, drop, length, List, [], ◌∷◌, ◌++◌, refl, sym, ap, ◌∙◌, arith}
use Rattle.std.specs.Prelude.{Some, decimal, bytes_eq}
use Rattle.std.specs.List.{list_all}
use Rattle.std.specs.Str.Parse.{AllDigits, digits_value}
use Rattle.std.proofs.lemmas.List.{append-nil}
use Rattle.std.proofs.lemmas.Slice.Eq.{bytes_eq-Decides}
use Rattle.std.proofs.lemmas.Fmt.{decimal_is_IsNumeral}
use Rattle.hit_report.specs.RecordLines.{spaced}
use Rattle.report_lines.specs.Reader.{is_visible, label_at, labelled_at, last_number, number_at, numeral, word_at, word_back, word_front}

-- no word goes on here
abbrev pub stops : List ℕ → Bool
stops [] = true
stops (b ∷ bs) = not (is_visible b)

abbrev pub are_visible : List ℕ → Bool
are_visible word = list_all is_visible word

pub same_eq : (xs ys : List ℕ) → xs ≡ ys → bytes_eq xs ys ≡ true
same_eq xs ys same = (bytes_eq-Decides xs ys).1 same

pub eq_same : (xs ys : List ℕ) → bytes_eq xs ys ≡ true → xs ≡ ys
eq_same xs ys same = (bytes_eq-Decides xs ys).0 same

pub front_of : (word rest : List ℕ) → are_visible word ≡ true → stops rest ≡ true → word_front (word ++ rest) ≡ word
front_of [] [] visible end = refl
front_of [] (b ∷ bs) visible end = grind arith
front_of (b ∷ word) rest visible end = let more = front_of word rest (grind arith) end in grind arith

pub back_of : (word rest : List ℕ) → are_visible word ≡ true → stops rest ≡ true → word_back (word ++ rest) ≡ rest
back_of [] [] visible end = refl
back_of [] (b ∷ bs) visible end = grind arith
back_of (b ∷ word) rest visible end = let more = back_of word rest (grind arith) end in grind arith

pub word_reads : (word rest : List ℕ) → are_visible word ≡ true → stops rest ≡ true → word_at (32 ∷ word ++ rest) ≡ Some (word, rest)
unfolding word_at
word_reads word rest visible end = rw (front_of word rest visible end, back_of word rest visible end) refl

pub label_reads : (label rest : List ℕ) → are_visible label ≡ true → stops rest ≡ true → label_at label (32 ∷ label ++ rest) ≡ Some rest
unfolding label_at
label_reads label rest visible end = rw (word_reads label rest visible end, same_eq label label refl) refl

digits_visible : (word : List ℕ) → AllDigits 10 word → are_visible word ≡ true
digits_visible [] all = refl
digits_visible (b ∷ bs) all = let more = digits_visible bs all.1 in let here = all.0 in grind arith

pub decimal_visible : (n : ℕ) → n < 2 ^ 64 → are_visible (decimal n) ≡ true
decimal_visible n small = digits_visible (decimal n) (decimal_is_IsNumeral n small).0.1

pub numeral_reads : (most n : ℕ) → most < 2 ^ 64 → n ≤ most → numeral most (decimal n) ≡ Some n
unfolding numeral
numeral_reads most n small within =
    let value : digits_value 10 (decimal n) ≡ n = (decimal_is_IsNumeral n (omega arith)).1 in
    rw (value, same_eq (decimal n) (decimal n) refl) (grind arith)

pub number_reads : (most n : ℕ) (rest : List ℕ) → most < 2 ^ 64 → n ≤ most → stops rest ≡ true → number_at most (spaced n ++ rest) ≡ Some (n, rest)
unfolding number_at
number_reads most n rest small within end = rw (word_reads (decimal n) rest (decimal_visible n (omega arith)) end, numeral_reads most n small within) refl

pub labelled_reads : (label : List ℕ) (most n : ℕ) (rest : List ℕ) → are_visible label ≡ true → most < 2 ^ 64 → n ≤ most → stops rest ≡ true
    → labelled_at label most (32 ∷ label ++ (spaced n ++ rest)) ≡ Some (n, rest)
unfolding labelled_at
labelled_reads label most n rest visible small within end = rw (label_reads label (spaced n ++ rest) visible refl, number_reads most n rest small within end) refl

pub last_reads : (most n : ℕ) → most < 2 ^ 64 → n ≤ most → last_number most (spaced n) ≡ Some n
unfolding last_number
last_reads most n small within = ap (last_number most) (sym (append-nil (spaced n))) ∙ rw (number_reads most n [] small within refl) refl

-- ---- where a word is cut

abbrev AreSeenBelow : List ℕ → ℕ → Type 0
AreSeenBelow text n = (k : ℕ) → k < n → is_visible (get_or text k 0) ≡ true

seen_first : (b : ℕ) (bs : List ℕ) (n : ℕ) → 0 < n → AreSeenBelow (b ∷ bs) n → is_visible b ≡ true
seen_first b bs n some seen = seen 0 some

seen_later : (b : ℕ) (bs : List ℕ) (n : ℕ) → AreSeenBelow (b ∷ bs) (suc n) → AreSeenBelow bs n
seen_later b bs n seen = λ k less. seen (suc k) (omega arith)

pub all_front : (text : List ℕ) → AreSeenBelow text (length text) → text ≡ word_front text
all_front [] seen = refl
all_front (b ∷ bs) seen =
    let here = seen_first b bs (length (b ∷ bs)) (omega arith) seen in
    let more = all_front bs (seen_later b bs (length bs) (λ k less. seen k (omega arith))) in
    grind arith

pub none_back : (text : List ℕ) → AreSeenBelow text (length text) → [] ≡ word_back text
none_back [] seen = refl
none_back (b ∷ bs) seen =
    let here = seen_first b bs (length (b ∷ bs)) (omega arith) seen in
    let more = none_back bs (seen_later b bs (length bs) (λ k less. seen k (omega arith))) in
    grind arith

pub taken_front : (text : List ℕ) (i : ℕ) → i < length text → is_visible (get_or text i 0) ≡ false → AreSeenBelow text i → take i text ≡ word_front text
taken_front [] i within ends seen = absurd (omega arith)
taken_front (b ∷ bs) zero within ends seen = rw ends refl
taken_front (b ∷ bs) (suc i) within ends seen =
    let here = seen_first b bs (suc i) (omega arith) seen in
    rw here (ap (λ (l : List ℕ). b ∷ l) (taken_front bs i (omega arith) ends (seen_later b bs i seen)))

pub dropped_back : (text : List ℕ) (i : ℕ) → i < length text → is_visible (get_or text i 0) ≡ false → AreSeenBelow text i → drop i text ≡ word_back text
dropped_back [] i within ends seen = absurd (omega arith)
dropped_back (b ∷ bs) zero within ends seen = rw ends refl
dropped_back (b ∷ bs) (suc i) within ends seen =
    let here = seen_first b bs (suc i) (omega arith) seen in
    rw here (dropped_back bs i (omega arith) ends (seen_later b bs i seen))
