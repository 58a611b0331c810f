-- One word of a page is stored, and own pages come into the tree.
use Rattle.std.specs.Prelude.{◌≡◌, ◌≢◌, ℕ, ◌<◌, ◌⊎◌}
use Rattle.board_core.specs.Sheets.{Sheet, IsLinked}

-- one word of one page was stored
pub record IsPut (w u : ℕ → ℕ → ℕ) (q i n : ℕ) : Type 0 where
  pub here : u q i ≡ n
  pub others : (p j : ℕ) → (p ≢ q) ⊎ (j ≢ i) → u p j ≡ w p j

-- what becomes of the pages: New ones come in, x goes out
pub record Turns (s z : Sheet) (New : ℕ → Type 0) (x : ℕ) : Type 0 where
  pub own : (p : ℕ) → New p → 0 < s.owned p
  pub stays : (p : ℕ) → IsLinked s p → p ≢ x → IsLinked z p
  pub comes : (p : ℕ) → New p → IsLinked z p
  pub either : (p : ℕ) → IsLinked z p → (IsLinked s p × (p ≢ x)) ⊎ New p
