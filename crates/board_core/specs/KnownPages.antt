-- What a pinned caller knows of the pages that it reached, and what the end of a chain tells of old rows.
use Rattle.std.specs.Prelude.{◌≡◌, ◌≢◌, ℕ, ◌+◌, ◌*◌, ◌<◌, ◌≤◌, ◌⊎◌, Bool, true, false, List, [], ◌∷◌, ◌++◌, length}
use mathlib.Core.Option.{some}
use lib.ListN.{get_elem?}
use Rattle.board_core.specs.declared.tree.Link.TheVariants.{Absent, To}
use Rattle.board_core.specs.declared.tree.Reached.{Reached}
use Rattle.board_core.specs.Each.{Each, In}
use Rattle.board_core.specs.Sheets.{Sheet, IsLinked}
use Rattle.board_core.specs.ClassTree.{Place, chained, slot_at, page_room, IsBelow}

abbrev pub place_of : Reached → Place
place_of x = record { path = x.path; rank = x.rank; leaf = x.leaf; from = x.from; way = x.way }

-- a held leaf that left the tree: full, with no more
pub record IsFullLeaf (page : ℕ → ℕ) (x : Reached) : Type 0 where
  pub low : length x.path < chained
  pub rank : x.rank ≡ 0
  pub header : page 0 ≡ 1 + 4 * length x.path
  pub more : page 1 ≡ 0
  pub full : (i : ℕ) → i < 14 → page (2 + i) ≢ 0

-- a leaf of the last depth that stands in the tree. It is never split, so it stands there for good
pub record Lasts (s : Sheet) (m : ℕ → Place) (x : Reached) : Type 0 where
  pub leaf : x.leaf ≡ true
  pub deep : chained ≤ length x.path
  pub linked : IsLinked s x.page
  pub place : m x.page ≡ place_of x

pub record ReachedFits (w : ℕ → ℕ → ℕ) (s : Sheet) (m : ℕ → Place) (x : Reached) : Type 0 where
  pub inner : x.leaf ≡ false → IsLinked s x.page
  pub place : IsLinked s x.page → m x.page ≡ place_of x
  pub known : (i n : ℕ) → get_elem? x.slots i ≡ some n → (n ≢ 0) × (w x.page (slot_at x.leaf i) ≡ n)
  pub room : length x.slots ≤ page_room x.leaf
  pub more : (p : ℕ) → x.more ≡ To p → (w x.page 1 ≡ p) × (length x.slots ≡ page_room x.leaf) × (p ≢ 0)
  pub old : x.leaf ≡ true → IsLinked s x.page ⊎ IsFullLeaf (w x.page) x

-- a page of the same chain
pub record IsMate (rs : List Reached) (on : List ℕ) (leaf : Bool) (y : Reached) : Type 0 where
  pub there : In y rs
  pub path : y.path ≡ on
  pub kind : y.leaf ≡ leaf

-- the page before this one in its chain was read whole
abbrev pub HasEarlier : List Reached → Reached → Type 0
HasEarlier rs x = 0 < x.rank → (y : Reached) × IsMate rs x.path x.leaf y × (y.rank + 1 ≡ x.rank)
    × (page_room x.leaf ≤ length y.slots)

-- or x is a leaf, and no row is old: then the page before it may have been passed unread
abbrev pub IsInChain : (ℕ → Type 0) → List Reached → Reached → Type 0
IsInChain old rs x = HasEarlier rs x ⊎ ((x.leaf ≡ true) × ((r : ℕ) → old r → ⊥))

-- n was read in a chain
abbrev pub IsRead : List Reached → List ℕ → Bool → ℕ → Type 0
IsRead rs path leaf n = (y : Reached) × IsMate rs path leaf y × In n y.slots

-- the end of the chain was read at this page
abbrev pub IsEnd : Bool → Reached → Type 0
IsEnd true x = (x.zero ≡ true) ⊎ ((length x.slots ≡ 14) × ((length x.path < chained) ⊎ (x.more ≡ Absent)))
IsEnd false x = (x.zero ≡ true) ⊎ ((length x.slots ≡ 7) × (x.more ≡ Absent))

-- what the end tells of a row
abbrev pub EndTells : (ℕ → List ℕ) → List Reached → Bool → Reached → ℕ → Type 0
EndTells codes rs true x r = IsBelow x.path (codes r) → IsRead rs x.path true r
EndTells codes rs false x r = (c : ℕ) (rest : List ℕ) → codes r ≡ x.path ++ c ∷ rest → IsRead rs x.path false c

-- at the path of a leaf that was reached as the first of its chain a first page is linked: the leaf, or an inner page
-- in its place
abbrev pub IsTurned : Sheet → (ℕ → Place) → Reached → Type 0
IsTurned s m x = x.rank ≡ 0 → (p : ℕ) × IsLinked s p × ((m p).path ≡ x.path) × ((m p).rank ≡ 0)
    × ((p ≡ x.page) ⊎ ((m p).leaf ≡ false))

pub record KnowsPages (w : ℕ → ℕ → ℕ) (s : Sheet) (m : ℕ → Place) (codes : ℕ → List ℕ) (old : ℕ → Type 0)
    (rs : List Reached) : Type 0 where
  pub fits : Each (ReachedFits w s m) rs
  pub chain : Each (IsInChain old rs) rs
  pub ends : Each (λ x. IsEnd x.leaf x → (r : ℕ) → old r → EndTells codes rs x.leaf x r) rs
  pub absent : Each (λ x. (i c : ℕ) → get_elem? x.links i ≡ some Absent → get_elem? x.slots i ≡ some c → (r : ℕ) → old r
      → IsBelow (x.path ++ c ∷ []) (codes r) → ⊥) rs
  pub turned : Each (λ x. x.leaf ≡ true → IsTurned s m x) rs
  pub gone : Each (λ x. x.leaf ≡ true → (r : ℕ) → old r → IsBelow x.path (codes r) → IsLinked s x.page
      ⊎ ((i : ℕ) × (i < 14) × (w x.page (2 + i) ≡ r))) rs

-- the entries of a held leaf that left the tree differ, are placed, and have the leaf's path
pub record AreKept (page : ℕ → ℕ) (codes : ℕ → List ℕ) (put : ℕ → Type 0) (path : List ℕ) : Type 0 where
  pub placed : (i : ℕ) → i < 14 → put (page (2 + i))
  pub below : (i : ℕ) → i < 14 → IsBelow path (codes (page (2 + i)))
  pub differ : (i j : ℕ) → i < 14 → j < 14 → page (2 + i) ≡ page (2 + j) → i ≡ j
