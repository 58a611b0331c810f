-- Where the new pages will stand, as a function of the page (this project's own).
use Rattle.std.specs.Prelude.{◌≡◌, ℕ, ◌+◌, ◌-◌, ◌/◌, ◌%◌, ◌<◌, ◌==◌, List, [], ◌∷◌, length, slice_index, if◌then◌else◌}
use Rattle.board_core.specs.ClassTree.{Place}
use Rattle.leaf_split.specs.Pages.{inner_place, leaf_place}

abbrev pub place_at : List ℕ → (ℕ → ℕ) → (ℕ → ℕ) → ℕ → ℕ → ℕ → Place
place_at path code number q k t = if t % 8 == 0 then inner_place path number q k
    (t / 8) else leaf_place path code number (t / 8) (t % 8 - 1)

-- the page at t and those behind it stand where f says, all others where they stood
abbrev pub settled : (ℕ → Place) → (ℕ → Place) → ℕ → List ℕ → ℕ → Place
settled f old t [] p = old p
settled f old t (n ∷ ns) p = if p == n then f t else settled f old (t + 1) ns p

-- numbers that differ
pub record AreApart (numbers : List ℕ) : Type 0 where
  pub apart : (t u : ℕ) → t < length numbers → u < length numbers → slice_index numbers t ≡ slice_index numbers u
      → t ≡ u
