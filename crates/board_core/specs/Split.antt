-- When the link of a full leaf may be exchanged for new pages that have its rows, said of the words.
use Rattle.std.specs.Prelude.{◌≡◌, ◌≢◌, ℕ, ◌+◌, ◌*◌, ◌<◌, Bool, true, false, List, [], ◌∷◌, ◌++◌, length}
use Rattle.board_core.specs.declared.tree.Way.{Way}
use Rattle.board_core.specs.declared.tree.Way.TheVariants.{Branch}
use Rattle.board_core.specs.Sheets.{Sheet, IsLinked}
use Rattle.board_core.specs.ClassTree.{Place, at_way, slot_at, page_room, Follows, IsWay, PageStands, IsBelow}

-- the word at this slot of a new page is n
pub record NewHasSlot (w : ℕ → ℕ → ℕ) (v : ℕ → Place) (New : ℕ → Type 0) (leaf : Bool) (n p i : ℕ) : Type 0 where
  pub new : New p
  pub kind : (v p).leaf ≡ leaf
  pub room : i < page_room leaf
  pub some_n : n ≢ 0
  pub there : w p (slot_at leaf i) ≡ n

-- v: where the new pages will stand. L: the leaf behind link k of page q, first: the new page that takes its place
pub record MaySplit (w : ℕ → ℕ → ℕ) (s : Sheet) (m v : ℕ → Place) (codes : ℕ → List ℕ) (New : ℕ → Type 0)
    (q k L first : ℕ) : Type 0 where
  pub inner : IsLinked s q
  pub kind : (m q).leaf ≡ false
  pub room : k < 7
  pub leaf : IsLinked s L
  pub old : (m L).leaf ≡ true
  pub low : length (m L).path < 5
  pub there : w q (3 + 2 * k) ≡ L
  pub full : (i : ℕ) → i < 14 → w L (2 + i) ≢ 0
  pub numbered : (p : ℕ) → New p → (p ≢ 0) × (p ≢ 1)
  pub head : New first × ((v first).from ≡ q) × ((v first).way ≡ Branch k) × ((v first).path ≡ (m L).path)
      × ((v first).rank ≡ 0)
  pub inner_first : (v first).leaf ≡ false
  pub ranks : (p : ℕ) → New p → (v p).rank < 2
  pub below : (p : ℕ) → New p → IsBelow (m L).path (v p).path
  pub pages : (p : ℕ) → New p → PageStands (w p) (v p)
  pub named : (p : ℕ) → New p → p ≢ first → New (v p).from × (w (v p).from (at_way (v p).way) ≡ p)
      × Follows (w (v p).from) (v (v p).from) (v p).way (v p)
  pub leads : (p : ℕ) (to : Way) → New p → IsWay (v p) to → w p (at_way to) ≢ 0 → New (w p (at_way to))
      × ((v (w p (at_way to))).from ≡ p) × ((v (w p (at_way to))).way ≡ to)
  pub alone : (p r : ℕ) → New p → New r → (v p).path ≡ (v r).path → (v p).rank ≡ (v r).rank → p ≡ r
  pub apart : (n p r i j : ℕ) → NewHasSlot w v New false n p i → NewHasSlot w v New false n r j
      → (v p).path ≡ (v r).path → (p ≡ r) × (i ≡ j)
  pub begun : (c p i : ℕ) → NewHasSlot w v New false c p i → (j : ℕ) × (j < 14)
      × IsBelow ((v p).path ++ c ∷ []) (codes (w L (2 + j)))
  pub rows : (n p r i j : ℕ) → NewHasSlot w v New true n p i → NewHasSlot w v New true n r j → (p ≡ r) × (i ≡ j)
  pub entries : (n p i : ℕ) → NewHasSlot w v New true n p i → ((j : ℕ) × (j < 14) × (w L (2 + j) ≡ n))
      × IsBelow (v p).path (codes n)
  pub keeps : (n j : ℕ) → j < 14 → w L (2 + j) ≡ n → (p : ℕ) × (i : ℕ) × NewHasSlot w v New true n p i
