-- What the bytes of an SDfile are: its records, accepted or refused, in order. (CTfile Formats, "SDfiles": a section
-- ends at a line $$$$. That blank last lines are no record is this project's own.)
use Rattle.std.specs.Prelude.{◌≡◌, ℕ, ◌+◌, List, [], ◌∷◌, ◌++◌, length, All, true, false, not, if◌then◌else◌}
use Rattle.std.specs.List.{list_any}
use Rattle.mol_section.specs.Lines.{lines_of, ends_section}
use Rattle.mol_section.specs.Fields.{is_blank}
use Rattle.mol_section.specs.SectionRecord.{Outcome, IsOutcome}

-- the lines are these sections, each followed by a line that ends it, and then the last lines, none of which ends one
abbrev pub AreSections : List (List ℕ) → List (List (List ℕ)) → List (List ℕ) → Type 0
AreSections lines [] last = (lines ≡ last) × All (λ line. ends_section line ≡ false) last
AreSections lines (section ∷ sections) last =
    (end : List ℕ) × (rest : List (List ℕ)) × (ends_section end ≡ true)
    × All (λ line. ends_section line ≡ false) section
    × (lines ≡ section ++ end ∷ rest) × AreSections rest sections last

-- the last lines are a section too, unless they are all blank
abbrev pub last_sections : List (List ℕ) → List (List (List ℕ))
last_sections last = if list_any (λ line. not (is_blank line)) last then last ∷ [] else []

-- the outcomes of sections, the first of which begins at this line
abbrev pub AreOutcomes : ℕ → List (List (List ℕ)) → List Outcome → Type 0
AreOutcomes first [] outcomes = outcomes ≡ []
AreOutcomes first (section ∷ sections) [] = ⊥
AreOutcomes first (section ∷ sections) (outcome ∷ outcomes) = IsOutcome first section outcome
    × AreOutcomes (first + length section + 1) sections outcomes

-- the record list of the bytes: record i, counted from 1, has the i-th outcome
pub record IsRecordList (bytes : List ℕ) (outcomes : List Outcome) : Type 0 where
  pub sections : List (List (List ℕ))
  pub last : List (List ℕ)
  pub are_sections : AreSections (lines_of bytes) sections last
  pub are_outcomes : AreOutcomes 1 (sections ++ last_sections last) outcomes
