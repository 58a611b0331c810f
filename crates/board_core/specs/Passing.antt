-- A leaf of the last depth that names a next page is full, so a caller may go on behind it without reading its entries.
-- Such a leaf stays where it is, so a caller may go to it again at once, also after its `unpin` (this project's own).
use Rattle.std.specs.Prelude.{◌≡◌, ◌≢◌, ℕ, zero, suc, ◌+◌, ◌<◌, ◌≤◌, ◌⊎◌, ◌==◌, true, false, List, [], ◌∷◌, ◌++◌, length, if◌then◌else◌}
use Rattle.atomic_table.specs.Table.{Step}
use Rattle.htss_defs.specs.declared.shape.Shape.{Shape}
use Rattle.board_core.specs.declared.account.Account.{Account}
use Rattle.board_core.specs.declared.tree.Link.TheVariants.{Unread}
use Rattle.board_core.specs.declared.tree.Reached.{Reached}
use Rattle.board_core.specs.Each.{In}
use Rattle.board_core.specs.ClassTree.{chained, header_of}
use Rattle.board_core.specs.KnownPages.{place_of}
use Rattle.board_core.specs.Loaded.{IsPage, IsVisit}
use Rattle.board_core.specs.After.{root, visited, next_of}
use Rattle.board_core.specs.Steps.{Mine, became}

-- the next page of a leaf of the last depth may be loaded, whatever was read of the leaf
pub record MayPassLeaf (k : Shape) (a : Account) (j : ℕ) : Type 0 where
  pub visit : IsVisit k a j
  pub pinned : 0 < a.pool.announced
  pub leaf : (visited a.tree.reached j).leaf ≡ true
  pub deep : chained ≤ length (visited a.tree.reached j).path

-- a leaf was reached whose rows are not all known: from now on the caller speaks of no row as old
abbrev pub after_gone : Account → Reached → Account
after_gone a y = record a { tree = record a.tree { front = 0; reached = a.tree.reached ++ y ∷ [] } }

-- where there is a next page, it was reached
abbrev pub after_passed : Account → ℕ → ℕ → Account
after_passed a j zero = a
after_passed a j (suc n) = after_gone a (next_of (visited a.tree.reached j) (suc n))

-- the next page, of a rank that is in the shape
pub record PassesLeaf (j : ℕ) (s : Step (Unit {0})) (m : Mine) (found : ℕ) (n : Mine) : Type 0 where
  pub after : n ≡ became m (after_passed m.0.me j found)
  pub page : found ≢ 0 → IsPage m.0.shape found
  pub rank : found ≢ 0 → (visited m.0.me.tree.reached j).rank + 1 < m.0.shape.chain

-- two leaves of the last depth are known for good
abbrev pub after_kept : Account → ℕ → ℕ → Account
after_kept a i j = record a {
  tree = record a.tree
      { lasting = a.tree.lasting ++ visited a.tree.reached i ∷ visited a.tree.reached j ∷ [] };
}

-- a word was loaded whose value is not used
abbrev pub KeepsLeaves : ℕ → ℕ → Step (Unit {0}) → Mine → ℕ → Mine → Type 0
KeepsLeaves i j s m found n = n ≡ became m (after_kept m.0.me i j)

-- the leaf of this page among those that were kept: the root where there is none
abbrev pub kept_at : List Reached → ℕ → Reached
kept_at [] page = root
kept_at (x ∷ xs) page = if x.page == page then x else kept_at xs page

-- leaves of one chain were kept at these pages
pub record AreKeptOf (xs : List Reached) (first last : ℕ) : Type 0 where
  pub one : Reached
  pub one_there : In one xs
  pub one_page : one.page ≡ first
  pub other : Reached
  pub other_there : In other xs
  pub other_page : other.page ≡ last
  pub path : other.path ≡ one.path

-- it is the leaf x itself, or one that was kept and is of its chain
abbrev pub MayBeRecalled : List Reached → Reached → Reached → Type 0
MayBeRecalled xs x to = (to ≡ x) ⊎ (In to xs × AreKeptOf xs x.page to.page)

-- a leaf of the chain of the leaf j may be gone to at once
pub record MayRecall (k : Shape) (a : Account) (j : ℕ) (to : Reached) : Type 0 where
  pub may : MayPassLeaf k a j
  pub kept : MayBeRecalled a.tree.lasting (visited a.tree.reached j) to
  pub inside : IsPage k to.page

-- the leaf, on the path of x, of which nothing is read yet
abbrev pub recalled : Reached → Reached → Reached
recalled x to = record {
  page = to.page;
  from = to.from;
  way = to.way;
  path = x.path;
  rank = to.rank;
  leaf = true;
  slots = [];
  zero = false;
  links = [];
  more = Unread;
}

abbrev pub after_recalled : Account → ℕ → Reached → Account
after_recalled a j to = after_gone a (recalled (visited a.tree.reached j) to)

-- its header was loaded
pub record Recalls (j : ℕ) (to : Reached) (s : Step (Unit {0})) (m : Mine) (found : ℕ) (n : Mine) : Type 0 where
  pub after : n ≡ became m (after_recalled m.0.me j to)
  pub header : found ≡ header_of (place_of (recalled (visited m.0.me.tree.reached j) to))
  pub rank : to.rank < m.0.shape.chain
