-- The digits of a word, one after the other.
use Rattle.std.proofs.Common.{◌≡◌, ℕ, ◌+◌, ◌-◌, List, [], ◌∷◌, ◌++◌, sym, ap, ◌∙◌, append_assoc, arith}
use Rattle.std.specs.Prelude.{map}
use Rattle.std.specs.List.{range_with_len}
use Rattle.std.proofs.lemmas.List.FromFn.{map-range_with_len_more}
use Rattle.hit_report.specs.CodesLines.{hex_digit_before, hex_word}

pub digits_more : (word index digit : ℕ) (start old new : List ℕ) → old ≡ start ++ map (λ i. hex_digit_before (15 - i) word) (range_with_len 0 index) → digit ≡ hex_digit_before (15 - index) word → new ≡ old ++ digit ∷ []
    → new ≡ start ++ map (λ i. hex_digit_before (15 - i) word) (range_with_len 0 (index + 1))
digits_more word index digit start old new so_far is grown =
    let f = λ (i : ℕ). hex_digit_before (15 - i) word in
    grown ∙ ap (λ (x : List ℕ). x ++ digit ∷ []) so_far ∙ append_assoc start (map f (range_with_len 0 index)) (digit ∷ [])
    ∙ ap (λ (d : ℕ). start ++ (map f (range_with_len 0 index) ++ d ∷ [])) is
    ∙ ap (λ (x : List ℕ). start ++ x) (sym (map-range_with_len_more f 0 index index (omega arith)))

pub digits_all : (word index : ℕ) (start middle new : List ℕ) → index ≡ 16 → middle ≡ start ++ 32 ∷ [] → new ≡ middle ++ map (λ i. hex_digit_before (15 - i) word) (range_with_len 0 index) → new ≡ start ++ 32 ∷ hex_word word
unfolding hex_word
digits_all word index start middle new all first grown =
    let f = λ (i : ℕ). hex_digit_before (15 - i) word in
    grown ∙ ap (λ (n : ℕ). middle ++ map f (range_with_len 0 n)) all ∙ ap (λ (x : List ℕ). x ++ map f (range_with_len 0 16)) first
    ∙ append_assoc start (32 ∷ []) (map f (range_with_len 0 16))
