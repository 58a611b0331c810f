-- Columns, fields and words of a line. (CTfile Formats, "The Ctab Block" for fields by columns. That a column past the
-- end of a line is a space, and that property lines are read by words, is this project's own.)
use Rattle.std.specs.Prelude.{ℕ, ◌+◌, ◌-◌, ◌*◌, ℤ, pos, neg_ℤ, List, [], ◌∷◌, ◌++◌, length, take, drop, replicate}
use Rattle.std.specs.Prelude.{reverse, filter, fold, Option, None, Some, option_and_then, Bool, not, ◌&&◌, ◌==◌, nat_le}
use Rattle.std.specs.Prelude.{nat_eq, if◌then◌else◌}
use Rattle.std.specs.List.{list_all, slice_split, starts_with}

-- the columns from the first to the last, counted from 1
abbrev pub columns : ℕ → ℕ → List ℕ → List ℕ
columns first last line = take (last + 1 - first) (drop (first - 1) (line ++ replicate last 32))

-- without spaces at the front, and at both ends
abbrev pub trim_front : List ℕ → List ℕ
trim_front [] = []
trim_front (b ∷ bs) = if b == 32 then trim_front bs else b ∷ bs

abbrev pub trim_ends : List ℕ → List ℕ
trim_ends text = reverse (trim_front (reverse (trim_front text)))

-- a field is its columns without spaces at both ends
unfoldable pub field : ℕ → ℕ → List ℕ → List ℕ
field first last line = trim_ends (columns first last line)

abbrev pub is_blank : List ℕ → Bool
is_blank text = list_all (λ b. b == 32) text

abbrev pub are_digits : List ℕ → Bool
are_digits text = list_all (λ b. nat_le 48 b && nat_le b 57) text

-- the number that digits stand for
abbrev pub value_of : List ℕ → ℕ
value_of digits = fold (λ n digit. 10 * n + (digit - 48)) 0 digits

-- the value of a count field: blank is 0, else 1 to 3 digits
unfoldable pub count_of : List ℕ → Option ℕ
count_of text =
    if length text == 0 then Some 0 else
    (if are_digits text && nat_le (length text) 3 then Some (value_of text) else None)

-- the value of a number of 1 to 3 digits
unfoldable pub number_of : List ℕ → Option ℕ
number_of text = if length text == 0 then None else count_of text

-- the value of a number of 1 to 3 digits with or without a sign
unfoldable pub signed_of : List ℕ → Option ℤ
signed_of [] = None
signed_of (b ∷ bs) =
    if b == 43 then option_and_then (λ n. Some (pos n)) (number_of bs)
    else (if b == 45 then option_and_then (λ n. Some (neg_ℤ (pos n))) (number_of bs)
    else option_and_then (λ n. Some (pos n)) (number_of (b ∷ bs)))

-- the words of a text: what stands between spaces
unfoldable pub words_of : List ℕ → List (List ℕ)
words_of text = filter (λ word. not (length word == 0)) (slice_split (λ b. b == 32) text)

-- the line begins with these bytes
abbrev pub begins : List ℕ → List ℕ → Bool
begins line lead = starts_with nat_eq line lead
