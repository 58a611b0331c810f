-- What a line of a script says (this project's own).
use Rattle.std.specs.Prelude.{ℕ, ◌^◌, List, [], ◌∷◌, length, Option, Some, None, Bool, false, ◌&&◌, ◌||◌, ◌==◌, nat_le}
use Rattle.std.specs.Prelude.{nat_lt, if◌then◌else◌}
use Rattle.std.specs.List.{list_all}
use Rattle.std.specs.Str.{bytes_eq}
use Rattle.std.specs.Str.Parse.{digits_value}
use lib.Chars.{codes}
use Rattle.mol_section.specs.Fields.{is_blank, words_of}
use Rattle.script_text.specs.declared.script.Order.TheVariants.{Load, Withdraw, Search}
use Rattle.script_text.specs.declared.saying.Saying.{Saying}
use Rattle.script_text.specs.declared.saying.Saying.TheVariants.{Passed, Settles, Asks, Wrong}

-- the first byte is `#`
abbrev pub is_comment : List ℕ → Bool
is_comment [] = false
is_comment (b ∷ bs) = b == 35

abbrev pub is_printable : ℕ → Bool
is_printable b = nat_le 32 b && nat_le b 126

-- at most 4,096 bytes, each 32 to 126
abbrev pub is_plain : List ℕ → Bool
is_plain line = nat_le (length line) 4096 && list_all is_printable line

abbrev pub is_digit : ℕ → Bool
is_digit b = nat_le 48 b && nat_le b 57

-- 1 to so many decimal digits
abbrev pub is_numeral : ℕ → List ℕ → Bool
is_numeral most word = nat_le 1 (length word) && (nat_le (length word) most && list_all is_digit word)

-- the value of 1 to so many digits, leading zeros allowed, where it is below the limit
unfoldable pub number_below : ℕ → ℕ → List ℕ → Option ℕ
number_below most limit word = if is_numeral most word && nat_lt (digits_value 10 word) limit then Some
    (digits_value 10 word) else None

-- the line that asks for the withdrawal of a number, if it is one
abbrev pub withdrawal : Option ℕ → Saying
withdrawal (Some number) = Asks (Withdraw number)
withdrawal None = Wrong

-- the line that asks for a search under a budget, if it is a number
abbrev pub search_under : List ℕ → Option ℕ → Saying
search_under file (Some budget) = Asks (Search file (Some budget))
search_under file None = Wrong

-- what the words of a line say
abbrev pub words_say : List (List ℕ) → Saying
words_say (command ∷ []) = if bytes_eq command (codes "settle") then Settles else Wrong
words_say (command ∷ word ∷ []) =
    if bytes_eq command (codes "load") then Asks (Load word)
    else (if bytes_eq command (codes "withdraw") then withdrawal (number_below 10 (2 ^ 32) word)
    else (if bytes_eq command (codes "search") then Asks (Search word None)
    else Wrong))
words_say (command ∷ file ∷ budget ∷ []) =
    if bytes_eq command (codes "search") then search_under file (number_below 20 (2 ^ 64) budget) else Wrong
words_say _ = Wrong

-- what a line says: a comment and a blank line are passed over, whatever their length
unfoldable pub says : List ℕ → Saying
says line =
    if is_comment line || is_blank line then Passed
    else (if is_plain line then words_say (words_of line) else Wrong)
