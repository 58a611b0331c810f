-- Sets of places as words of 64 bits.
use Rattle.std.specs.Prelude.{◌≡◌, ◌≢◌, ℕ, ◌/◌, ◌%◌, ◌<◌, ◌==◌, List, slice_index, All, AllPairs}
use Rattle.std.specs.List.{list_any}
use Rattle.std.specs.Int.{bit_at}

-- 1 where the set has place p, else 0
unfoldable pub place_bit : List ℕ → ℕ → ℕ
place_bit words p = bit_at (slice_index words (p / 64)) (p % 64)

-- the least place of the set after that one
pub record IsNextBit (words : List ℕ) (after next : ℕ) : Type 0 where
  pub above : after < next
  pub set : place_bit words next ≡ 1
  pub between : (p : ℕ) → after < p → p < next → place_bit words p ≡ 0

-- the places of the map differ, and the set has them and no others
pub record AreTaken (map words : List ℕ) : Type 0 where
  pub within : All (λ x. x < 1024) map
  pub apart : AllPairs (λ x y. x ≢ y) map
  pub flags : (p : ℕ) → p < 1024 → list_any (λ x. x == p) map ≡ (place_bit words p == 1)
