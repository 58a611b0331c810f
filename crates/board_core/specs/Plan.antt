-- What the account alone says before the link of a full leaf is exchanged: the words that it stored in own pages, and
-- what it read of the leaf.
use Rattle.std.specs.Prelude.{◌≡◌, ◌≢◌, ℕ, ◌<◌, ◌==◌, true, false, List, [], ◌∷◌, ◌++◌, length, slice_index}
use Rattle.std.specs.Prelude.{if◌then◌else◌}
use mathlib.Core.Option.{some}
use lib.ListN.{get_elem?}
use Rattle.board_core.specs.declared.account.Account.{Account}
use Rattle.board_core.specs.declared.pool.Own.{Own}
use Rattle.board_core.specs.declared.tree.Way.{Way}
use Rattle.board_core.specs.declared.tree.Way.TheVariants.{Branch}
use Rattle.board_core.specs.declared.tree.Reached.{Reached}
use Rattle.board_core.specs.Each.{In}
use Rattle.board_core.specs.Rows.{block_named, atom_named}
use Rattle.board_core.specs.ClassTree.{Place, at_way, IsWay, Follows, PageStands, IsBelow}
use Rattle.board_core.specs.Split.{NewHasSlot}
use Rattle.board_core.specs.Loaded.{HasCode, HasOwn}

-- the words stored in an own page, and one of them
abbrev pub words_at : List Own → ℕ → List ℕ
words_at [] p = []
words_at (o ∷ os) p = if p == o.page then o.words else words_at os p

abbrev pub own_word : List Own → ℕ → ℕ → ℕ
own_word os p i = slice_index (words_at os p) i

-- an own page of which all words were stored
pub record IsWhole (a : Account) (p : ℕ) : Type 0 where
  pub own : HasOwn a p
  pub size : length (words_at a.pool.own p) ≡ 16

-- the rows of a leaf may have these codes: they differ, and each row's next code is the one that was loaded
pub record MayHaveCodes (a : Account) (x : Reached) (codes : ℕ → List ℕ) : Type 0 where
  pub differ : (i j n : ℕ) → get_elem? x.slots i ≡ some n → get_elem? x.slots j ≡ some n → i ≡ j
  pub next : (n c : ℕ) → In n x.slots → HasCode a (block_named n) (atom_named n) (length x.path) c
      → IsBelow (x.path ++ c ∷ []) (codes n)

-- W: the words stored in own pages. v: where the new pages will stand. y: the inner page that was reached, x: the leaf
-- behind its link k, first: the new page that takes its place
pub record Plan (W : ℕ → ℕ → ℕ) (v : ℕ → Place) (codes : ℕ → List ℕ) (New : ℕ → Type 0) (rs : List Reached)
    (y x : Reached) (k first : ℕ) : Type 0 where
  pub inner : In y rs
  pub kind : y.leaf ≡ false
  pub room : k < 7
  pub leaf : In x rs
  pub old : x.leaf ≡ true
  pub low : length x.path < 5
  pub full : length x.slots ≡ 14
  pub head : New first × ((v first).from ≡ y.page) × ((v first).way ≡ Branch k) × ((v first).path ≡ x.path)
      × ((v first).rank ≡ 0)
  pub inner_first : (v first).leaf ≡ false
  pub ranks : (p : ℕ) → New p → (v p).rank < 2
  pub below : (p : ℕ) → New p → IsBelow x.path (v p).path
  pub pages : (p : ℕ) → New p → PageStands (W p) (v p)
  pub named : (p : ℕ) → New p → p ≢ first → New (v p).from × (W (v p).from (at_way (v p).way) ≡ p)
      × Follows (W (v p).from) (v (v p).from) (v p).way (v p)
  pub leads : (p : ℕ) (to : Way) → New p → IsWay (v p) to → W p (at_way to) ≢ 0 → New (W p (at_way to))
      × ((v (W p (at_way to))).from ≡ p) × ((v (W p (at_way to))).way ≡ to)
  pub alone : (p r : ℕ) → New p → New r → (v p).path ≡ (v r).path → (v p).rank ≡ (v r).rank → p ≡ r
  pub apart : (n p r i j : ℕ) → NewHasSlot W v New false n p i → NewHasSlot W v New false n r j
      → (v p).path ≡ (v r).path → (p ≡ r) × (i ≡ j)
  pub begun : (c p i : ℕ) → NewHasSlot W v New false c p i → (n : ℕ) × In n x.slots
      × IsBelow ((v p).path ++ c ∷ []) (codes n)
  pub rows : (n p r i j : ℕ) → NewHasSlot W v New true n p i → NewHasSlot W v New true n r j → (p ≡ r) × (i ≡ j)
  pub entries : (n p i : ℕ) → NewHasSlot W v New true n p i → In n x.slots × IsBelow (v p).path (codes n)
  pub keeps : (n : ℕ) → In n x.slots → (p : ℕ) × (i : ℕ) × NewHasSlot W v New true n p i
