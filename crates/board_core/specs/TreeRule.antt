-- The class tree: where each linked page stands, that the tree is as it should be, and what callers know of it.
use Rattle.std.specs.Prelude.{ℕ, ◌<◌, false, List, [], ◌∷◌, ◌++◌}
use Rattle.htss_defs.specs.declared.shape.Shape.{Shape}
use Rattle.board_core.specs.declared.account.View.{View}
use Rattle.board_core.specs.Sheets.{Sheet, sheet_of, IsLinked}
use Rattle.board_core.specs.Rows.{IsBegun, IsPlaced}
use Rattle.board_core.specs.ClassTree.{Place, HasSlot, IsBelow, Tree}
use Rattle.board_core.specs.KnownRule.{KnownRule}

-- a row that was begun has this code on its path
abbrev pub CodeBegun : (ℕ → ℕ → ℕ) → Sheet → (ℕ → Place) → (ℕ → List ℕ) → (ℕ → Type 0) → Type 0
CodeBegun w s m codes begun = (c p i : ℕ) → HasSlot w s m false c p i → (r : ℕ) × begun r
    × IsBelow ((m p).path ++ c ∷ []) (codes r)

pub record TreeRule (k : Shape) (states : ℕ → ℕ) (w : ℕ → ℕ → ℕ) (codes : ℕ → List ℕ) (old : ℕ → ℕ → Type 0)
    (vs : List View) : Type 0 where
  pub place : ℕ → Place
  pub tree : Tree w (sheet_of states vs) place codes (IsPlaced vs)
  pub ranks : (p : ℕ) → IsLinked (sheet_of states vs) p → (place p).rank < k.chain
  pub begun : CodeBegun w (sheet_of states vs) place codes (IsBegun vs)
  pub known : KnownRule w (sheet_of states vs) place codes (IsPlaced vs) old vs
