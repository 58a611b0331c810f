-- The words of a neighbourhood, where each place of a graph counts in some of eight lanes.
use Rattle.std.specs.Prelude.{◌≡◌, ℕ, ◌≤◌, ◌<◌, List, [], ◌∷◌, slice_index_or, Bool, true, false}
use Rattle.htss_defs.specs.Graph.{Graph}
use Rattle.htss_defs.specs.Distances.{count_within}
use Rattle.htss_defs.specs.Codes.{word_of}

-- the place counts in lane i
unfoldable pub is_in : List (List Bool) → ℕ → ℕ → Bool
is_in lanes i y = slice_index_or (slice_index_or lanes y []) i false

-- the first n places count as `counted` says of a lane and a place
pub record HasLanes (counted : ℕ → ℕ → Bool) (n : ℕ) (lanes : List (List Bool)) : Type 0 where
  pub at : (i y : ℕ) → i < 8 → 1 ≤ y → y ≤ n → is_in lanes i y ≡ counted i y

-- the lanes of a place: the first, those from 1 to 6 by a test, and the last where the place has three bonds
abbrev pub lane_row : (ℕ → Bool) → Bool → List Bool
lane_row kind branched = true ∷ kind 1 ∷ kind 2 ∷ kind 3 ∷ kind 4 ∷ kind 5 ∷ kind 6 ∷ branched ∷ []

-- the word for distance k
unfoldable pub near_word : Graph → List (List Bool) → ℕ → ℕ → ℕ
near_word g lanes x k = word_of (λ i. count_within g k x (is_in lanes i))

abbrev pub near_list : Graph → List (List Bool) → ℕ → List ℕ
near_list g lanes x = near_word g lanes x 1 ∷ near_word g lanes x 2 ∷ near_word g lanes x 3 ∷ near_word g lanes x 4 ∷ []
