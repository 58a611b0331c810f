-- What a walk comes to behind a link, and in a chain of leaves (this project's own).
use Rattle.std.specs.Prelude.{◌≡◌, ◌≢◌, ℕ, ◌+◌, ◌<◌, ◌≤◌, Bool, true, false, take, length, slice_index, Option, Some}
use Rattle.std.specs.Prelude.{None}
use mathlib.Core.Option.{some}
use lib.ListN.{get_elem?}
use Rattle.htss_defs.specs.declared.shape.Shape.{Shape}
use Rattle.board_core.specs.declared.account.Account.{Account}
use Rattle.board_core.specs.declared.tree.Link.TheVariants.{Unread}
use Rattle.board_core.specs.KnownPages.{place_of}
use Rattle.board_core.specs.Loaded.{IsPage}
use Rattle.board_core.specs.ChainRule.{HasWalked}
use Rattle.board.specs.Seated.{Seated, with_account}
use Rattle.class_tree.specs.Inserting.{HasFullChain}
use Rattle.class_tree.specs.declared.link.Step.{Step}
use Rattle.class_tree.specs.declared.link.Step.TheVariants.{Placed, Down}
use Rattle.class_tree.specs.declared.walks.Stop.{Stop}
use Rattle.class_tree.specs.declared.walks.Ranked.{Ranked}
use Rattle.class_tree.specs.declared.walks.Slot.{Slot}
use Rattle.class_tree.specs.declared.walks.Target.{Target}
use Rattle.class_tree.specs.Walking.{here, Goes, AreHigh, IsFresh, IsAt, IsTarget, IsDown, IsAtLeaf, Places}

-- the next leaf of the chain, of which nothing is known
pub record IsNextLeaf (k : Shape) (c d : Seated) (s next : Stop) (depth rank : ℕ) (t : Target) : Type 0 where
  pub goes : Goes (s.number + 1) c d
  pub number : next.number ≡ s.number + 1
  pub leaf : IsAtLeaf k d.account next depth (rank + 1) 0 t
  pub linked : d.account.counts ≡ c.account.counts

-- the row was placed behind a full leaf, or the walk goes on at the next one
abbrev pub GoesBehind : Shape → Seated → Seated → Stop → ℕ → ℕ → Target → Option Stop → Type 0
GoesBehind k c d s depth rank t None = Places c d t.row
GoesBehind k c d s depth rank t (Some next) = IsNextLeaf k c d s next depth rank t

-- the next leaf of the chain, of which nothing is known. The leaf before it stands where it stood, whatever was read of
-- it
pub record IsPastLeaf (k : Shape) (c d : Seated) (s next : Stop) (depth rank : ℕ) (t : Target) : Type 0 where
  pub goes : Goes s.number c d
  pub place : place_of (here d.account s) ≡ place_of (here c.account s)
  pub page : (here d.account s).page ≡ (here c.account s).page
  pub number : next.number ≡ s.number + 1
  pub leaf : IsAtLeaf k d.account next depth (rank + 1) 0 t
  pub linked : d.account.counts ≡ c.account.counts

-- the row was placed in the leaf or behind it, or the walk goes on at the next one
abbrev pub GoesPast : Shape → Seated → Seated → Stop → ℕ → ℕ → Target → Option Stop → Type 0
GoesPast k c d s depth rank t None = Places c d t.row
GoesPast k c d s depth rank t (Some next) = IsPastLeaf k c d s next depth rank t

-- the first leaf of the chain of the row's five codes was reached
pub record IsFirst (k : Shape) (a : Account) (s : Stop) (t : Target) : Type 0 where
  pub inside : IsPage k s.page
  pub reached : s.number < length a.tree.reached
  pub there : (here a s).page ≡ s.page
  pub on : (here a s).path ≡ take 5 t.codes
  pub at : (here a s).rank ≡ 0
  pub kind : (here a s).leaf ≡ true

-- own pages and those that are kept for later are as they were, and so is what was counted
pub record KeepsPages (c d : Seated) : Type 0 where
  pub pool : d.account.pool ≡ c.account.pool
  pub stock : d.stock ≡ c.stock
  pub counts : d.account.counts ≡ c.account.counts

-- from the first leaf of a chain the walk came to a leaf of that chain, of which nothing is known
pub record ComesTo (k : Shape) (c d : Seated) (first : Stop) (x : Ranked) (t : Target) : Type 0 where
  pub goes : Goes 0 c d
  pub pages : KeepsPages c d
  pub first_is : IsFirst k d.account first t
  pub leaf : IsAtLeaf k d.account x.stop 5 x.rank 0 t
  pub number : x.stop.number ≤ first.number + 1
  pub less : x.rank < k.chain

-- only the leaves that it keeps in mind may have changed
abbrev pub KeepsMind : Seated → Seated → Type 0
KeepsMind c d = d ≡ with_account c
    (record c.account { tree = record c.account.tree { lasting = d.account.tree.lasting } })

-- the last leaf that a chain may have was read to its end from this one on, and each is full from there
pub record FindsFull (k : Shape) (c d : Seated) (first : Stop) (x : Ranked) (last : Stop) (t : Target) : Type 0 where
  pub goes : Goes 0 c d
  pub counts : d.account.counts ≡ c.account.counts
  pub first_is : IsFirst k d.account first t
  pub walked : HasWalked d.account k.chain
  pub target : IsTarget k d.account t
  pub pinned : 0 < d.account.pool.announced
  pub size : length d.account.tree.reached ≡ last.number + 1
  pub number : last.number ≤ x.stop.number + 65536
  pub full : x.rank ≡ 0 → HasFullChain k d.account t.row

-- the row was placed, or the chain is full
abbrev pub FillsOr : Shape → Seated → Seated → Stop → Ranked → Target → Option Stop → Type 0
FillsOr k c d first x t None = Places c d t.row
FillsOr k c d first x t (Some last) = FindsFull k c d first x last t

-- the row's code of this depth stands in this slot of an inner page that was reached, and its link may be loaded
pub record IsPair (k : Shape) (a : Account) (x : Slot) (depth : ℕ) (t : Target) : Type 0 where
  pub pinned : 0 < a.pool.announced
  pub inside : IsPage k x.stop.page
  pub reached : x.stop.number < length a.tree.reached
  pub there : (here a x.stop).page ≡ x.stop.page
  pub on : (here a x.stop).path ≡ take depth t.codes
  pub kind : (here a x.stop).leaf ≡ false
  pub unread : (here a x.stop).more ≡ Unread
  pub not_zero : (here a x.stop).zero ≡ false
  pub room : x.index < 7
  pub code : get_elem? (here a x.stop).slots x.index ≡ some (slice_index t.codes depth)

-- the walk stands behind a link of this depth, at a leaf or at the first page of an inner chain, of which nothing is
-- known
pub record IsBehind (k : Shape) (a : Account) (x : Slot) (s : Stop) (depth : ℕ) (t : Target) : Type 0 where
  pub leaf : Bool
  pub at : IsAt k a s (take (depth + 1) t.codes) 0 leaf 0
  pub deep : depth < 5
  pub target : IsTarget k a t
  pub fresh : leaf ≡ false → (code : ℕ) → IsFresh a (take (depth + 1) t.codes) code
  pub high : leaf ≡ false → AreHigh a (depth + 1)
  pub pair : IsPair k a x depth t
  pub above : leaf ≡ true → AreHigh a depth
  pub other : x.stop.number ≢ s.number

pub record IsLed (k : Shape) (c d : Seated) (x : Slot) (next : Stop) (depth : ℕ) (t : Target) : Type 0 where
  pub goes : Goes 0 c d
  pub number : next.number ≡ x.stop.number + 1
  pub behind : IsBehind k d.account x next depth t
  pub linked : d.account.counts ≡ c.account.counts

-- the row was placed at the link, or the walk stands behind it
abbrev pub GoesBelow : Shape → Seated → Seated → Slot → ℕ → Target → Option Stop → Type 0
GoesBelow k c d x depth t None = Places c d t.row
GoesBelow k c d x depth t (Some next) = IsLed k c d x next depth t

-- the walk stands at a full leaf of one level more, behind this link
pub record IsBehindFull (k : Shape) (a : Account) (x : Slot) (s : Stop) (depth : ℕ) (t : Target) : Type 0 where
  pub leaf : IsAtLeaf k a s (depth + 1) 0 14 t
  pub low : depth + 1 < 5
  pub pair : IsPair k a x depth t
  pub above : AreHigh a depth
  pub other : x.stop.number ≢ s.number

-- the walk came to an inner chain of this depth, at this page or the one that was reached next. It has linked the pages
-- of one split at most
pub record ComesIn (k : Shape) (c d : Seated) (s next : Stop) (depth : ℕ) (t : Target) : Type 0 where
  pub goes : Goes 0 c d
  pub linked : d.account.counts.linked ≤ c.account.counts.linked + 16
  pub number : next.number ≤ s.number + 1
  pub low : depth < 5
  pub down : IsDown k d.account next depth t

-- from behind a link of this depth the row was placed, or an inner chain is there, which goes on at a further depth
abbrev pub GoesOn : Shape → Seated → Seated → Stop → ℕ → Target → Step → Type 0
GoesOn k c d s depth t Placed = Places c d t.row
GoesOn k c d s depth t (Down next) = ComesIn k c d s next (depth + 1) t

-- the row was placed, or the walk came one level down
pub record ComesDown (k : Shape) (c d : Seated) (s next : Stop) (depth : ℕ) (t : Target) : Type 0 where
  pub goes : Goes 0 c d
  pub linked : d.account.counts.linked ≤ c.account.counts.linked + 16
  pub number : next.number ≤ s.number + 2
  pub low : depth + 1 < 5
  pub down : IsDown k d.account next (depth + 1) t

abbrev pub FollowsTo : Shape → Seated → Seated → Slot → ℕ → Target → Step → Type 0
FollowsTo k c d x depth t Placed = Places c d t.row
FollowsTo k c d x depth t (Down next) = ComesDown k c d x.stop next depth t
