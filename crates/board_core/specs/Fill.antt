-- When an entry of a leaf may be exchanged for a row.
use Rattle.std.specs.Prelude.{◌≡◌, ◌≢◌, ℕ, ◌+◌, ◌<◌, ◌⊎◌, true, List}
use Rattle.board_core.specs.Sheets.{Sheet, IsLinked}
use Rattle.board_core.specs.ClassTree.{Place, IsBelow}

pub record MayFill (w : ℕ → ℕ → ℕ) (s : Sheet) (m : ℕ → Place) (codes : ℕ → List ℕ) (put : ℕ → Type 0)
    (p i n : ℕ) : Type 0 where
  pub linked : IsLinked s p
  pub leaf : (m p).leaf ≡ true
  pub room : i < 14
  pub empty : w p (2 + i) ≡ 0
  pub front : (j : ℕ) → j < i → w p (2 + j) ≢ 0
  pub row : n ≢ 0
  pub other : put n → ⊥
  pub below : IsBelow (m p).path (codes n)

-- the rows placed are these and n
pub record IsOneMore (put puts : ℕ → Type 0) (n : ℕ) : Type 0 where
  pub old : (x : ℕ) → put x → puts x
  pub new : puts n
  pub all : (x : ℕ) → puts x → put x ⊎ (x ≡ n)
