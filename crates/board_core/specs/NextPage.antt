-- When the `more` of a full page may be exchanged for a page, and when one word is added to a page.
use Rattle.std.specs.Prelude.{◌≡◌, ◌≢◌, ℕ, ◌+◌, ◌<◌, ◌≤◌, true, false, List, length}
use Rattle.board_core.specs.declared.tree.Way.TheVariants.{More}
use Rattle.board_core.specs.Sheets.{Sheet, IsLinked}
use Rattle.board_core.specs.ClassTree.{Place, chained, header_of, slot_at, page_room, HasSlot, IsBelow}

-- where the next page of q's chain will stand
abbrev pub after : (ℕ → Place) → ℕ → Place
after m q = record { path = (m q).path; rank = (m q).rank + 1; leaf = (m q).leaf; from = q; way = More }

-- n is the first code, or the first entry, of the new page p
pub record MayChain (w : ℕ → ℕ → ℕ) (s : Sheet) (m : ℕ → Place) (q p n : ℕ) : Type 0 where
  pub linked : IsLinked s q
  pub full : (i : ℕ) → i < page_room (m q).leaf → w q (slot_at (m q).leaf i) ≢ 0
  pub empty : w q 1 ≡ 0
  pub deep : (m q).leaf ≡ true → chained ≤ length (m q).path
  pub numbered : (p ≢ 0) × (p ≢ 1)
  pub header : w p 0 ≡ header_of (after m q)
  pub first : w p 2 ≡ n
  pub rest : (i : ℕ) → 0 < i → i ≢ 2 → w p i ≡ 0
  pub some_n : n ≢ 0
  pub code : (m q).leaf ≡ false → (o i : ℕ) → HasSlot w s m false n o i → (m o).path ≡ (m q).path → ⊥

-- where it is a leaf, n is a row that was not placed
pub record MayRow (m : ℕ → Place) (codes : ℕ → List ℕ) (put : ℕ → Type 0) (q n : ℕ) : Type 0 where
  pub other : put n → ⊥
  pub below : IsBelow (m q).path (codes n)
