-- What `parse` reads of a word of digits is its value.
use Rattle.std.proofs.Common.{◌≡◌, ℕ, ◌^◌, ◌<◌, ◌≤◌, List, [], ◌∷◌, length, All, refl, sym, ap, subst, ◌∙◌, arith}
use Rattle.std.specs.Prelude.{Option, Some, None, true, false, Result, Ok, Err}
use Rattle.std.specs.List.{list_all}
use Rattle.std.specs.Str.{IsUtf8}
use Rattle.std.specs.Str.Parse.{AllDigits, IsNumeral, ParsesUnsigned, digits_value, without_leading_plus}
use Rattle.std.proofs.lemmas.Str.{IsUtf8-from_ascii}
use Rattle.std.proofs.lemmas.Str.Ascii.{IsAscii-from_all}
use Rattle.std.proofs.lemmas.List.Elements.{All-nil, All-cons, All-weaker}
use Rattle.htss_defs.specs.FileName.{IsFileName}
use Rattle.script_text.specs.Grammar.{is_digit, is_numeral, number_below}

-- the value that was read, if any
abbrev pub read_value : {E : Type 0} → Result ℕ E → Option ℕ
read_value (Ok n) = Some n
read_value (Err e) = None

all_digits : (word : List ℕ) → list_all is_digit word ≡ true → AllDigits 10 word
all_digits [] all = tt
all_digits (b ∷ bs) all = (grind arith, all_digits bs (grind arith))

no_plus : (word : List ℕ) → list_all is_digit word ≡ true → without_leading_plus word ≡ word
no_plus [] all = refl
no_plus (b ∷ bs) all = grind arith

below_128 : (word : List ℕ) → list_all is_digit word ≡ true → All (λ b. b < 128) word
below_128 [] all = All-nil (λ b. b < 128)
below_128 (b ∷ bs) all = All-cons (λ b. b < 128) b bs (grind arith) (below_128 bs (grind arith))

numeral : (most : ℕ) (word : List ℕ) → is_numeral most word ≡ true → (0 < length word) × (list_all is_digit word ≡ true)
numeral most word is = (grind arith, grind arith)

pub numeral_utf8 : (most : ℕ) (word : List ℕ) → is_numeral most word ≡ true → IsUtf8 word
numeral_utf8 most word is = IsUtf8-from_ascii word (IsAscii-from_all word (below_128 word (numeral most word is).1))

pub name_utf8 : (word : List ℕ) → IsFileName word → IsUtf8 word
name_utf8 word is = IsUtf8-from_ascii word (IsAscii-from_all word (All-weaker (λ b. (33 ≤ b) × (b ≤ 126)) (λ b. b < 128) (λ b seen. omega (arith, seen.1)) word is.visible))

below : (most limit : ℕ) (word : List ℕ) → is_numeral most word ≡ true → digits_value 10 word < limit → number_below most limit word ≡ Some (digits_value 10 word)
unfolding number_below
below most limit word is less = grind arith

above : (most limit : ℕ) (word : List ℕ) → is_numeral most word ≡ true → (digits_value 10 word < limit → ⊥) → number_below most limit word ≡ None
unfolding number_below
above most limit word is more = grind arith

pub number_below-parsed : {E : Type 0} (most bits : ℕ) (word : List ℕ) (result : Result ℕ E) → is_numeral most word ≡ true → ParsesUnsigned bits 10 word result → read_value result ≡ number_below most (2 ^ bits) word
number_below-parsed most bits word (Ok n) is parses =
    let same = no_plus word (numeral most word is).1 in
    let less : digits_value 10 word < 2 ^ bits = subst (λ (w : List ℕ). digits_value 10 w < 2 ^ bits) same parses.0.1 in
    ap Some (parses.1 ∙ ap (digits_value 10) same) ∙ sym (below most (2 ^ bits) word is less)
number_below-parsed most bits word (Err e) is parses =
    let same = no_plus word (numeral most word is).1 in
    sym (above most (2 ^ bits) word is (λ less. parses (subst (λ (w : List ℕ). IsNumeral 10 w × (digits_value 10 w < 2 ^ bits)) (sym same) (((numeral most word is).0, all_digits word (numeral most word is).1), less))))

pub number_below-none : (most limit : ℕ) (word : List ℕ) → is_numeral most word ≡ false → number_below most limit word ≡ None
unfolding number_below
number_below-none most limit word is = grind arith
