-- What a caller may rely on at a moment: some words, of which the rule of the board holds, and what it knows of them.
use Rattle.std.specs.Prelude.{◌≡◌, ◌≢◌, ℕ, ◌<◌, ◌⊎◌, true, List, length}
use Rattle.board_core.specs.declared.account.View.{View}
use Rattle.board_core.specs.declared.tree.Reached.{Reached}
use Rattle.board_core.specs.Each.{Each}
use Rattle.board_core.specs.Sheets.{Sheet, IsLinked}
use Rattle.board_core.specs.ClassTree.{Place, Tree}
use Rattle.board_core.specs.KnownPages.{KnowsPages, AreKept}
use Rattle.board_core.specs.Rows.{IsPlaced}

-- put: the rows that are placed. old: the rows of the events that the caller had seen at its pin
pub record Moment (chain : ℕ) (codes : ℕ → List ℕ) (put old : ℕ → Type 0) (rs : List Reached) : Type 0 where
  pub words : ℕ → ℕ → ℕ
  pub sheet : Sheet
  pub place : ℕ → Place
  pub tree : Tree words sheet place codes put
  pub known : KnowsPages words sheet place codes old rs
  pub olds : (r : ℕ) → old r → put r × (r ≢ 0)
  pub five : (r : ℕ) → put r → length (codes r) ≡ 5
  pub ranks : (p : ℕ) → IsLinked sheet p → (place p).rank < chain
  pub kept : Each (λ x. x.leaf ≡ true → IsLinked sheet x.page ⊎ AreKept (words x.page) codes put x.path) rs
  pub pairs : Each (λ x. length x.links ≡ length x.slots) rs

-- of some codes, and of no old rows: what holds of the pages that were reached whatever the rows are
abbrev pub SomeMoment : ℕ → List Reached → Type 0
SomeMoment chain rs = (codes : ℕ → List ℕ) × (vs : List View) × Moment chain codes (IsPlaced vs) (λ r. ⊥) rs
