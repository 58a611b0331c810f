-- A walk outwards from one place of a graph: the places seen so far stand in a queue.
use Rattle.std.specs.Prelude.{◌≡◌, ◌⊎◌, ℕ, ◌+◌, ◌≤◌, ◌<◌, List, min, length, slice_index, slice_index_or, slice_set}
use Rattle.std.specs.Prelude.{if◌then◌else◌, Bool, true, false, ◌&&◌}
use Rattle.std.specs.List.{count_by}
use Rattle.htss_defs.specs.Graph.{Graph}
use Rattle.htss_defs.specs.Distances.{graph_places, are_bonded, is_within}
use Rattle.env_code.specs.declared.walk.Walk.{Walk}
use Rattle.env_code.specs.Near.{is_in}

unfoldable pub seen_at : Walk → ℕ → Bool
seen_at w y = slice_index_or w.seen y false

-- one more in each of these lanes
pub record IsTallied (lanes : List Bool) (counts after : List ℕ) : Type 0 where
  pub size : length after ≡ 8
  pub at : (i : ℕ) → i < 8
      → slice_index after i ≡ min (slice_index counts i + (if slice_index_or lanes i false then 1 else 0)) 255

pub record IsSized (w : Walk) : Type 0 where
  pub seen : length w.seen ≡ 1000
  pub queue : length w.queue ≡ 1000

-- nothing is seen
pub record IsEmptyWalk (w : Walk) : Type 0 where
  pub sized : IsSized w
  pub found : w.found ≡ 0
  pub seen : (y : ℕ) → seen_at w y ≡ false
  pub counts : (i : ℕ) → slice_index w.counts i ≡ 0

-- the place is seen, stands at the end of the queue and counts in its lanes
pub record IsVisit (lanes : List (List Bool)) (place : ℕ) (v w : Walk) : Type 0 where
  pub seen : w.seen ≡ slice_set v.seen place true
  pub queue : w.queue ≡ slice_set v.queue v.found place
  pub found : w.found ≡ v.found + 1
  pub counts : (i : ℕ) → i < 8
      → slice_index w.counts i ≡ min (slice_index v.counts i + (if is_in lanes i place then 1 else 0)) 255

-- the place is visited, unless it has been seen
pub record IsReach (lanes : List (List Bool)) (place : ℕ) (v w : Walk) : Type 0 where
  pub unseen : seen_at v place ≡ false → IsVisit lanes place v w
  pub seen : seen_at v place ≡ true → w ≡ v

-- where place y stands in the queue
pub record StandsAt (w : Walk) (y : ℕ) : Type 0 where
  pub index : ℕ
  pub within : index < w.found
  pub is : slice_index w.queue index ≡ y

pub record IsQueued (g : Graph) (w : Walk) (y : ℕ) : Type 0 where
  pub place : (1 ≤ y) × (y ≤ g.atoms)
  pub seen : seen_at w y ≡ true

-- the queue has the places seen, each once, and they are counted in their lanes
pub record IsWalk (g : Graph) (lanes : List (List Bool)) (w : Walk) : Type 0 where
  pub sized : IsSized w
  pub number : count_by (seen_at w) (graph_places g) ≡ w.found
  pub counts : (i : ℕ) → i < 8
      → slice_index w.counts i ≡ min (count_by (λ y. seen_at w y && is_in lanes i y) (graph_places g)) 255
  pub queued : (j : ℕ) → j < w.found → IsQueued g w (slice_index w.queue j)
  pub stands : (y : ℕ) → 1 ≤ y → y ≤ g.atoms → seen_at w y ≡ true → StandsAt w y

-- later in the same walk
pub record IsLater (v w : Walk) : Type 0 where
  pub more : v.found ≤ w.found
  pub seen : (y : ℕ) → seen_at v y ≡ true → seen_at w y ≡ true
  pub queue : (j : ℕ) → j < v.found → slice_index w.queue j ≡ slice_index v.queue j

-- one place more is seen, if it was not
pub record IsReached (place : ℕ) (v w : Walk) : Type 0 where
  pub later : IsLater v w
  pub seen : seen_at w place ≡ true
  pub only : (y : ℕ) → seen_at w y ≡ true → (seen_at v y ≡ true) ⊎ (y ≡ place)

-- the neighbours of x are seen
pub record IsExplored (g : Graph) (w : Walk) (x : ℕ) : Type 0 where
  pub neighbours : (y : ℕ) → are_bonded g x y ≡ true → seen_at w y ≡ true

-- nothing is seen that was not seen before, but for neighbours of x
pub record IsSpread (g : Graph) (x : ℕ) (v w : Walk) : Type 0 where
  pub only : (y : ℕ) → seen_at w y ≡ true → (seen_at v y ≡ true) ⊎ (are_bonded g x y ≡ true)

-- the places within distance k of x are seen, and the neighbours of those before `head` in the queue are among them
pub record IsLevel (g : Graph) (w : Walk) (x k head : ℕ) : Type 0 where
  pub seen : (y : ℕ) → 1 ≤ y → y ≤ g.atoms → seen_at w y ≡ is_within g k x y
  pub explored : (j : ℕ) → j < head → IsExplored g w (slice_index w.queue j)
