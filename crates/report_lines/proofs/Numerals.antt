-- The digits of a number are a text, and `parse` reads the number of them.
use Rattle.std.proofs.Common.{◌≡◌, ◌⊎◌, ℕ, ◌^◌, ◌<◌, ◌≤◌, List, refl, ap, true, false, inl, inr, sym, subst, ◌∙◌, arith}
use Rattle.std.specs.Prelude.{decimal, Result, Ok, Option, Some, None, bytes_eq, nat_le, ◌&&◌}
use Rattle.std.specs.Str.{IsUtf8}
use Rattle.std.specs.Str.Parse.{ParsesUnsigned, digits_value}
use Rattle.std.proofs.lemmas.Bool.{cases_Bool, cond-true, cond-false}
use Rattle.std.proofs.lemmas.Option.{same_Some}
use Rattle.std.proofs.lemmas.Fmt.{IsAscii-decimal, parse-decimal}
use Rattle.std.proofs.lemmas.Str.{IsUtf8-from_ascii}
use Rattle.std.proofs.lemmas.Str.Ascii.{IsAscii-from_all}
use Rattle.std.proofs.lemmas.List.Elements.{All-weaker}
use Rattle.htss_defs.specs.FileName.{IsFileName}
use Rattle.report_lines.specs.Reader.{numeral}
use Rattle.report_lines.proofs.WordsRead.{eq_same, numeral_reads}

pub text_of-decimal : (word : List ℕ) (n : ℕ) → n < 2 ^ 64 → word ≡ decimal n → IsUtf8 word
text_of-decimal word n small same = subst (λ (w : List ℕ). IsUtf8 w) (sym same) (IsUtf8-from_ascii (decimal n) (IsAscii-decimal n small))

pub reads-decimal : {E : Type 0} (word text : List ℕ) (n : ℕ) (result : Result ℕ E) → n < 2 ^ 64 → text ≡ word → word ≡ decimal n → ParsesUnsigned 64 10 text result → result ≡ Ok n
reads-decimal word text n result small text_is same parses = parse-decimal 64 n text result small small (text_is ∙ same) parses

ok_same : {E : Type 0} (result : Result ℕ E) (n number : ℕ) → result ≡ Ok n → result ≡ Ok number → number ≡ n
ok_same result n number one other = grind (arith, one, other)

pub reads-same : {E : Type 0} (word text : List ℕ) (n number : ℕ) (result : Result ℕ E) → n < 2 ^ 64 → text ≡ word → word ≡ decimal n → ParsesUnsigned 64 10 text result → result ≡ Ok number → number ≡ n
reads-same word text n number result small text_is same parses is = ok_same result n number (reads-decimal word text n result small text_is same parses) is

none_some : (n : ℕ) → None ≡ Some n → ⊥
none_some n is = cc

pub numeral_some : (most n : ℕ) (word : List ℕ) → numeral most word ≡ Some n → (n ≤ most) × (word ≡ decimal n)
unfolding numeral
numeral_some most n word is = go (cases_Bool (bytes_eq word (decimal (digits_value 10 word)) && nat_le (digits_value 10 word) most))
  where
    go : (bytes_eq word (decimal (digits_value 10 word)) && nat_le (digits_value 10 word) most ≡ true)
        ⊎ (bytes_eq word (decimal (digits_value 10 word)) && nat_le (digits_value 10 word) most ≡ false) → (n ≤ most) × (word ≡ decimal n)
    go (inl passes) =
        let value : digits_value 10 word ≡ n = same_Some (digits_value 10 word) n (sym (cond-true (bytes_eq word (decimal (digits_value 10 word)) && nat_le (digits_value 10 word) most) (Some (digits_value 10 word)) None passes) ∙ is) in
        (grind arith, eq_same word (decimal (digits_value 10 word)) (grind arith) ∙ ap decimal value)
    go (inr fails) = absurd (none_some n (sym (cond-false (bytes_eq word (decimal (digits_value 10 word)) && nat_le (digits_value 10 word) most) (Some (digits_value 10 word)) None fails) ∙ is))

pub is_numeral : (most n : ℕ) (word : List ℕ) → most < 2 ^ 64 → n ≤ most → word ≡ decimal n → Some n ≡ numeral most word
is_numeral most n word small within same = sym (subst (λ (w : List ℕ). numeral most w ≡ Some n) (sym same) (numeral_reads most n small within))

pub no_numeral : (most : ℕ) (word : List ℕ) → ((n : ℕ) → n ≤ most → word ≡ decimal n → ⊥) → None ≡ numeral most word
no_numeral most word none = go (numeral most word) (λ n is. let some = numeral_some most n word is in none n some.0 some.1)
  where
    go : (o : Option ℕ) → ((n : ℕ) → o ≡ Some n → ⊥) → None ≡ o
    go None other = refl
    go (Some n) other = absurd (other n refl)

pub name_utf8 : (word : List ℕ) → IsFileName word → IsUtf8 word
name_utf8 word is = IsUtf8-from_ascii word (IsAscii-from_all word (All-weaker (λ b. (33 ≤ b) × (b ≤ 126)) (λ b. b < 128) (λ b seen. omega (arith, seen.1)) word is.visible))
