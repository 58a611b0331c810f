-- The lines of bytes. (CTfile Formats, "SDfiles": a section ends at a line $$$$. That a CR before the LF is no part of
-- a line is this project's own.)
use Rattle.std.specs.Prelude.{ℕ, List, [], ◌∷◌, map, nat_eq, Bool, ◌==◌, if◌then◌else◌}
use Rattle.std.specs.List.{starts_with}
use lib.Chars.{codes}

-- the first line has one more byte at its front
abbrev pub onto_first : ℕ → List (List ℕ) → List (List ℕ)
onto_first b [] = (b ∷ []) ∷ []
onto_first b (line ∷ lines) = (b ∷ line) ∷ lines

-- the lines, each without its LF; bytes after the last LF are a line where there is at least one
unfoldable pub raw_lines : List ℕ → List (List ℕ)
raw_lines [] = []
raw_lines (b ∷ bs) = if b == 10 then [] ∷ raw_lines bs else onto_first b (raw_lines bs)

-- one CR at the end of a line is no part of it
abbrev pub without_cr : List ℕ → List ℕ
without_cr [] = []
without_cr (b ∷ []) = if b == 13 then [] else b ∷ []
without_cr (b ∷ c ∷ bs) = b ∷ without_cr (c ∷ bs)

abbrev pub lines_of : List ℕ → List (List ℕ)
lines_of bytes = map without_cr (raw_lines bytes)

-- the line ends its section
abbrev pub ends_section : List ℕ → Bool
ends_section line = starts_with nat_eq line (codes "$$$$")
