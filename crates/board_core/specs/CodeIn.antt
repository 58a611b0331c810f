-- When a code word of an inner page may be exchanged for a code.
use Rattle.std.specs.Prelude.{◌≡◌, ◌≢◌, ℕ, ◌+◌, ◌*◌, ◌<◌, false}
use Rattle.board_core.specs.Sheets.{Sheet, IsLinked}
use Rattle.board_core.specs.ClassTree.{Place, HasSlot}

pub record MayCode (w : ℕ → ℕ → ℕ) (s : Sheet) (m : ℕ → Place) (q k c : ℕ) : Type 0 where
  pub linked : IsLinked s q
  pub inner : (m q).leaf ≡ false
  pub room : k < 7
  pub empty : w q (2 + 2 * k) ≡ 0
  pub front : (j : ℕ) → j < k → w q (2 + 2 * j) ≢ 0
  pub code : c ≢ 0
  pub absent : (p i : ℕ) → HasSlot w s m false c p i → (m p).path ≡ (m q).path → ⊥
