-- What was loaded of sealed blocks still stands: words other than the marks as they were, and a mark as far as the
-- front that was seen at its load.
use Rattle.std.specs.Prelude.{◌≡◌, ◌≢◌, ℕ, ◌+◌, ◌-◌, ◌<◌, ◌≤◌, ◌⊎◌, List}
use mathlib.Core.Option.{some}
use lib.ListN.{get_elem?}
use Rattle.htss_defs.specs.declared.shape.Shape.{Shape}
use Rattle.board_core.specs.declared.account.View.{View}
use Rattle.board_core.specs.declared.room.Sealed.{Sealed}
use Rattle.board_core.specs.declared.loads.Loads.{Loads}
use Rattle.board_core.specs.declared.loads.CodeLoad.{CodeLoad}
use Rattle.board_core.specs.declared.loads.WordLoad.{WordLoad}
use Rattle.board_core.specs.declared.loads.ShownLoad.{ShownLoad}
use Rattle.board_core.specs.Each.{Each}
use Rattle.board_core.specs.Words.{regions_at}
use Rattle.board_core.specs.Blocks.{atoms_in}
use Rattle.board_core.specs.Histories.{block_at}
use Rattle.board_core.specs.Records.{code_word_at}
use Rattle.board_core.specs.Accounts.{EachAccount}
use Rattle.board_core.specs.RoomRule.{IsSealed, IsMark, SomeAccount}

-- the word of the table at this place is a word of a block, and no mark
abbrev pub IsWordOf : List Sealed → ℕ → Type 0
IsWordOf blocks at = (j : ℕ) × (s : Sealed) × (get_elem? blocks j ≡ some s) × (i : ℕ) × (i < s.size) × (i ≢ 1) × (i ≢ 2)
    × (at ≡ s.place + i)

abbrev pub word_at : Shape → (ℕ → ℕ) → ℕ → ℕ
word_at k regions place = regions (place - regions_at k)

-- the first word of a block stands
abbrev pub HeadStands : Shape → (ℕ → ℕ) → WordLoad → Type 0
HeadStands k regions l = block_at k regions l.place 0 ≡ l.word

abbrev pub FactStands : Shape → (ℕ → ℕ) → WordLoad → Type 0
FactStands k regions l = word_at k regions l.place ≡ l.word

-- a code word of a row, whose atom counts from 1
abbrev pub CodeStands : Shape → (ℕ → ℕ) → CodeLoad → Type 0
CodeStands k regions l =
    block_at k regions l.row.block (code_word_at (block_at k regions l.row.block 0) (l.row.atom - 1) l.code) ≡ l.word

-- a mark that was up to the front stands; one that was not is still 0 or past that front
pub record MarkStands (k : Shape) (regions : ℕ → ℕ) (front : ℕ) (l : ShownLoad) : Type 0 where
  pub seen : l.front ≤ front
  pub told : 0 < l.word → l.word ≤ l.front → word_at k regions l.place ≡ l.word
  pub later : (l.word ≡ 0) ⊎ (l.front < l.word) → (word_at k regions l.place ≡ 0)
      ⊎ (l.front < word_at k regions l.place)

-- what was loaded of blocks stands
pub record BlocksStand (k : Shape) (regions : ℕ → ℕ) (front : ℕ) (l : Loads) : Type 0 where
  pub heads : Each (HeadStands k regions) l.heads
  pub facts : Each (FactStands k regions) l.facts
  pub codes : Each (CodeStands k regions) l.codes
  pub marks : Each (MarkStands k regions front) l.marks

-- a code of an atom of a sealed block
pub record IsCodeOf (k : Shape) (regions : ℕ → ℕ) (vs : List View) (l : CodeLoad) : Type 0 where
  pub sealed : SomeAccount (λ x. IsSealed x.room.sealed l.row.block) vs
  pub above : 0 < l.row.atom
  pub atom : l.row.atom ≤ atoms_in (block_at k regions l.row.block 0)
  pub code : l.code < 5

-- and it was loaded of sealed blocks
pub record AreOfBlocks (k : Shape) (regions : ℕ → ℕ) (vs : List View) (l : Loads) : Type 0 where
  pub heads : Each (λ x. SomeAccount (λ a. IsSealed a.room.sealed x.place) vs) l.heads
  pub facts : Each (λ x. SomeAccount (λ a. IsWordOf a.room.sealed x.place) vs) l.facts
  pub codes : Each (IsCodeOf k regions vs) l.codes
  pub marks : Each (λ x. SomeAccount (λ a. IsMark a.room.sealed x.place) vs) l.marks

pub record FactRule (k : Shape) (regions : ℕ → ℕ) (front : ℕ) (vs : List View) : Type 0 where
  pub stand : EachAccount (λ a. BlocksStand k regions front a.loads) vs
  pub of_blocks : EachAccount (λ a. AreOfBlocks k regions vs a.loads) vs
