-- The split of a full leaf: what is read of it, the pages that are taken, and what is stored in them (this project's
-- own).
use Rattle.std.specs.Prelude.{◌≡◌, ◌≢◌, ℕ, ◌+◌, ◌<◌, ◌≤◌, ◌⊎◌, true, List, [], length, take, slice_index}
use mathlib.Core.Option.{some}
use lib.ListN.{get_elem?}
use Rattle.htss_defs.specs.declared.shape.Shape.{Shape}
use Rattle.board_core.specs.declared.account.Account.{Account}
use Rattle.board_core.specs.declared.pool.Own.{Own}
use Rattle.board_core.specs.declared.tree.Reached.{Reached}
use Rattle.board_core.specs.Each.{Each}
use Rattle.board_core.specs.MarkRule.{IsAmong}
use Rattle.board_core.specs.Sheets.{owns}
use Rattle.board_core.specs.Loaded.{IsPage, HasOwn, HasCode}
use Rattle.board_core.specs.Rows.{block_named, atom_named}
use Rattle.board_core.specs.Steps.{MayExchangeLeaf}
use Rattle.board.specs.Seated.{Seated, with_account}
use Rattle.class_tree.specs.declared.walks.Stop.{Stop}
use Rattle.class_tree.specs.declared.walks.Slot.{Slot}
use Rattle.class_tree.specs.declared.walks.Target.{Target}
use Rattle.class_tree.specs.Loading.{LoadsOn}
use Rattle.class_tree.specs.Walking.{here, Goes}

-- ---- what is read

-- the walk stands at a leaf of this depth, which was read to its end
pub record IsAtFull (k : Shape) (a : Account) (s : Stop) (depth : ℕ) : Type 0 where
  pub inside : IsPage k s.page
  pub reached : s.number < length a.tree.reached
  pub there : (here a s).page ≡ s.page
  pub leaf : (here a s).leaf ≡ true
  pub deep : length (here a s).path ≡ depth
  pub low : depth < 5
  pub full : length (here a s).slots ≡ 14

-- codes and first words of blocks were loaded, and nothing else
pub record Learns (c d : Seated) : Type 0 where
  pub only : d ≡ with_account c (record c.account
      { loads = record c.account.loads { codes = d.account.loads.codes; heads = d.account.loads.heads } })
  pub grows : LoadsOn c.account d.account

-- entry i of a leaf is n, and c was loaded as the next code of its row
pub record IsRowOf (a : Account) (x : Reached) (i n c : ℕ) : Type 0 where
  pub read : get_elem? x.slots i ≡ some n
  pub some_n : n ≢ 0
  pub some_c : c ≢ 0
  pub code : HasCode a (block_named n) (atom_named n) (length x.path) c

-- so for the first of its entries
abbrev pub AreRowsOf : Account → Reached → List ℕ → List ℕ → ℕ → Type 0
AreRowsOf a x rows nexts count = (i : ℕ) → i < count → IsRowOf a x i (slice_index rows i) (slice_index nexts i)

-- ---- pages that are taken

-- the first n of these are own pages that were taken and are not kept. Each other own page is
pub record AreTaken (c : Seated) (pages : List ℕ) (n : ℕ) : Type 0 where
  pub own : (q : ℕ) → HasOwn c.account q → IsAmong c.stock q ⊎ ((t : ℕ) × (t < n) × (slice_index pages t ≡ q))
  pub mine : (t : ℕ) → t < n → IsPage c.shape (slice_index pages t) × HasOwn c.account (slice_index pages t)
      × ¬ (IsAmong c.stock (slice_index pages t))
  pub apart : (t u : ℕ) → t < n → u < n → slice_index pages t ≡ slice_index pages u → t ≡ u
  pub few : length c.account.pool.own ≤ length c.stock + n
  pub size : length c.stock + n ≤ 32
  pub clean : c.account.pool.parted ≡ []

-- from c to d they were taken, and the walk stands where it stood
pub record TakesAll (c d : Seated) (pages : List ℕ) (n : ℕ) : Type 0 where
  pub goes : Goes (length c.account.tree.reached) c d
  pub reached : d.account.tree.reached ≡ c.account.tree.reached
  pub taken : AreTaken d pages n
  pub linked : d.account.counts ≡ c.account.counts

-- ---- what is stored in them

-- the first n words of an own page were stored
abbrev pub AreStored : List Own → ℕ → (ℕ → ℕ) → ℕ → Type 0
AreStored own page word n = 0 < n
    → Each (λ o. o.page ≡ page → (length o.words ≡ n) × ((i : ℕ) → i < n → slice_index o.words i ≡ word i)) own

-- only words of own pages were stored, in pages of this kind
pub record StoresOnly (c d : Seated) (Touched : ℕ → Type 0) : Type 0 where
  pub after : d ≡ with_account c (record c.account { pool = record c.account.pool { own = d.account.pool.own } })
  pub same : (q : ℕ) → owns q d.account.pool.own ≡ owns q c.account.pool.own
  pub size : length d.account.pool.own ≡ length c.account.pool.own
  pub others : (q : ℕ) → (Touched q → ⊥) → (word : ℕ → ℕ) (n : ℕ) → AreStored c.account.pool.own q word n
      → AreStored d.account.pool.own q word n

-- the first n of these pages have all their words
abbrev pub AreFilled : List Own → List ℕ → (ℕ → ℕ → ℕ) → ℕ → Type 0
AreFilled own pages word n = (t : ℕ) → t < n → AreStored own (slice_index pages t) (word t) 16

-- ---- the pages are ready

-- from c to d the first n of these pages were made, which may take the leaf's place
pub record IsMade (k : Shape) (c d : Seated) (x : Slot) (s : Stop) (depth : ℕ) (t : Target) (pages : List ℕ)
    (n : ℕ) : Type 0 where
  pub takes : TakesAll c d pages n
  pub few : n ≤ 16
  pub some : 0 < n
  pub may : MayExchangeLeaf k d.account x.stop.number x.index (slice_index t.codes depth) s.number (take n pages)
      (slice_index pages 0)
