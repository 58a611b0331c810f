-- The text of codes (this project's own).
use Rattle.std.specs.Prelude.{ℕ, ◌-◌, ◌*◌, ◌/◌, ◌%◌, ◌^◌, false, List, [], ◌∷◌, ◌++◌, map, decimal}
use Rattle.std.specs.Fmt.{digit_glyph}
use Rattle.std.specs.List.{flat_map, range_with_len}
use Rattle.htss_defs.specs.declared.codes.Codes.{Codes}

-- the hexadecimal digit of a word that stands before `after` others, in lower case
unfoldable pub hex_digit_before : ℕ → ℕ → ℕ
hex_digit_before after word = digit_glyph false ((word / 2 ^ (4 * after)) % 16)

-- a word in 16 hexadecimal digits
unfoldable pub hex_word : ℕ → List ℕ
hex_word word = map (λ i. hex_digit_before (15 - i) word) (range_with_len 0 16)

-- an atom and its five codes
unfoldable pub codes_line : ℕ → Codes → List ℕ
codes_line atom codes = decimal atom ++ flat_map (λ word. 32 ∷ hex_word word) codes.words ++ 10 ∷ []
