-- Where the first section of the pending bytes of a stream ends.
-- (CTfile Formats, "SDfiles": a section ends at a line $$$$. How a stream is cut is this project's own.)
use Rattle.std.specs.Prelude.{◌≡◌, ◌≢◌, ◌⊎◌, ℕ, ◌+◌, ◌≤◌, List, [], ◌∷◌, ◌++◌, length, take, drop, All, Bool, true}
use Rattle.std.specs.Prelude.{false, not}
use Rattle.std.specs.List.{list_any}
use Rattle.mol_section.specs.Lines.{lines_of, ends_section}
use Rattle.mol_section.specs.Fields.{is_blank}

-- the bytes are whole lines, each with its LF
abbrev pub AreWhole : List ℕ → Type 0
AreWhole bytes = (bytes ≡ []) ⊎ ((front : List ℕ) × (bytes ≡ front ++ 10 ∷ []))

-- none of the lines ends a section
abbrev pub NoneEnds : List (List ℕ) → Type 0
NoneEnds lines = All (λ line. ends_section line ≡ false) lines

-- a line ends here: its LF comes and then the rest, or the stream is over
abbrev pub LineEnds : Bool → List ℕ → List ℕ → Type 0
LineEnds finished tail rest = (tail ≡ 10 ∷ rest) ⊎ ((finished ≡ true) × (tail ≡ []) × (rest ≡ []))

-- the bytes begin with the lines of this section and a line that ends it; the rest stands after them
pub record IsSection (finished : Bool) (bytes section rest : List ℕ) : Type 0 where
  pub end : List ℕ
  pub tail : List ℕ
  pub parts : bytes ≡ section ++ (end ++ tail)
  pub whole : AreWhole section
  pub inner : NoneEnds (lines_of section)
  pub one : All (λ b. b ≢ 10) end
  pub ends : ends_section end ≡ true
  pub after : LineEnds finished tail rest

-- no line that ends a section, its LF included, stands in the bytes
pub record NoSection (bytes : List ℕ) : Type 0 where
  pub none : (section rest : List ℕ) → IsSection false bytes section rest → ⊥

-- whether a line is not blank
abbrev pub has_text : List (List ℕ) → Bool
has_text lines = list_any (λ line. not (is_blank line)) lines

-- a section and the line that ends it are the front of what is pending
pub record TakesSection (finished : Bool) (pending section rest : List ℕ) (lines : ℕ) : Type 0 where
  pub cut : IsSection finished pending section rest
  pub count : lines ≡ length (lines_of section) + 1

-- the stream is over, and all that is pending is its last section: no line ends it, and not all lines are blank
pub record TakesLast (finished : Bool) (pending section rest : List ℕ) (lines : ℕ) : Type 0 where
  pub over : finished ≡ true
  pub all : section ≡ pending
  pub none : NoneEnds (lines_of section)
  pub text : has_text (lines_of section) ≡ true
  pub empty : rest ≡ []
  pub count : lines ≡ length (lines_of section)

-- what the next record takes of what is pending: so many lines
abbrev pub TakesLines : Bool → List ℕ → List ℕ → List ℕ → ℕ → Type 0
TakesLines finished pending section rest lines =
    TakesSection finished pending section rest lines ⊎ TakesLast finished pending section rest lines

-- the bytes begin with so many lines, which end at this place, and none of which ends a section
pub record HasPassed (bytes : List ℕ) (at lines : ℕ) : Type 0 where
  pub done : List ℕ
  pub rest : List ℕ
  pub parts : bytes ≡ done ++ rest
  pub at_is : at ≡ length done
  pub whole : AreWhole done
  pub none : NoneEnds (lines_of done)
  pub count : lines ≡ length (lines_of done)

-- what was looked at: lines, none of which ends a section, and bytes with no LF
pub record IsLooked (bytes : List ℕ) (at lines searched : ℕ) : Type 0 where
  pub passed : HasPassed bytes at lines
  pub within : at + searched ≤ length bytes
  pub lone : All (λ b. b ≢ 10) (take searched (drop at bytes))

-- no lines, or lines the first of which ends a section
abbrev pub BeginsWithEnd : List (List ℕ) → Type 0
BeginsWithEnd [] = Unit {0}
BeginsWithEnd (line ∷ lines) = ends_section line ≡ true

-- the lines of the first section: all lines before the first that ends one
pub record IsFirstSection (lines section : List (List ℕ)) : Type 0 where
  pub rest : List (List ℕ)
  pub parts : lines ≡ section ++ rest
  pub none : NoneEnds section
  pub ends : BeginsWithEnd rest
