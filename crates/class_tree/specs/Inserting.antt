-- What the insertion of a row does to its caller (this project's own).
use Rattle.std.specs.Prelude.{◌≡◌, ◌≢◌, ℕ, ◌+◌, ◌/◌, ◌<◌, ◌≤◌, ◌⊎◌, Bool, true, false, List, [], ◌∷◌, ◌++◌, length}
use mathlib.Core.Option.{some}
use lib.ListN.{get_elem?}
use Rattle.htss_defs.specs.declared.shape.Shape.{Shape}
use Rattle.board_core.specs.declared.account.Account.{Account}
use Rattle.board_core.specs.declared.account.View.{View}
use Rattle.board_core.specs.declared.entry.Entry.{Entry}
use Rattle.board_core.specs.declared.entry.Entry.TheVariants.{NoPage as PageWanted, ChainFull as ChainWasFull}
use Rattle.board_core.specs.declared.loads.CodeLoad.{CodeLoad}
use Rattle.board_core.specs.declared.loads.Loads.{Loads}
use Rattle.board_core.specs.declared.room.Row.{Row}
use Rattle.board_core.specs.declared.tree.Reached.{Reached}
use Rattle.board_core.specs.Each.{Each, In}
use Rattle.board_core.specs.ClassTree.{IsBelow, slot_at, page_room}
use Rattle.board_core.specs.KnownPages.{IsMate}
use Rattle.board_core.specs.Words.{Parts}
use Rattle.board_core.specs.Boards.{HasBoard}
use Rattle.board_core.specs.Loaded.{HasOwn, HasCode}
use Rattle.board_core.specs.MarkRule.{IsAmong}
use Rattle.board_core.specs.Rows.{block_named, atom_named, own_codes}
use Rattle.board_core.specs.After.{noted, after_answer, after_unpin}
use Rattle.board.specs.Seated.{Seated, with_account, with_stock}
use Rattle.page_pool.specs.Taking.{IsRefused}
use Rattle.class_tree.specs.Loading.{code_loads, LoadsOn}
use Rattle.class_tree.specs.declared.insert.InsertError.{InsertError}
use Rattle.class_tree.specs.declared.insert.InsertError.TheVariants.{NoPage, ChainFull}

-- each own page is kept for later, once, at most 32 are, and no page is unlinked without a stamp
pub record IsStocked (c : Seated) : Type 0 where
  pub own : (q : ℕ) → HasOwn c.account q → IsAmong c.stock q
  pub few : length c.account.pool.own ≤ length c.stock
  pub size : length c.stock ≤ 32
  pub clean : c.account.pool.parted ≡ []

-- what an insertion leaves, whatever it answers: the row is begun, its five codes were loaded first, and the caller is
-- unpinned. The log, the region, and what was loaded of the log, of marks, names, atoms and bonds are as they were. All
-- else that was loaded stays
pub record HasBegun (k : Shape) (c d : Seated) (row : Row) : Type 0 where
  pub who : d.account.who ≡ c.account.who
  pub unpinned : d.account.pool.announced ≡ 0
  pub begun : d.account.tree.begun ≡ c.account.tree.begun ++ row ∷ []
  pub codes : (j : ℕ) (x : CodeLoad)
      → get_elem? (c.account.loads.codes ++ code_loads row 0 (own_codes k c.account row)) j ≡ some x
      → get_elem? d.account.loads.codes j ≡ some x
  pub log : d.account.log ≡ c.account.log
  pub room : d.account.room ≡ c.account.room
  pub fronts : d.account.loads.fronts ≡ c.account.loads.fronts
  pub shown : d.account.loads.shown ≡ c.account.loads.shown
  pub marks : d.account.loads.marks ≡ c.account.loads.marks
  pub facts : d.account.loads.facts ≡ c.account.loads.facts
  pub grows : LoadsOn c.account d.account

-- the row is placed, and nothing is answered
pub record HasPlaced (c d : Seated) (row : Row) : Type 0 where
  pub placed : d.account.tree.placed ≡ c.account.tree.placed ++ row ∷ []
  pub entries : d.account.entries ≡ c.account.entries

-- no row is placed, and this is answered
pub record HasAnswered (c d : Seated) (e : Entry) : Type 0 where
  pub placed : d.account.tree.placed ≡ c.account.tree.placed
  pub loads : Loads
  pub entries : d.account.entries ≡ c.account.entries ++ noted loads (e ∷ [])

-- these are the next codes of a leaf's rows, as they were loaded, each once
pub record AreNextCodes (a : Account) (x : Reached) (codes : List ℕ) : Type 0 where
  pub once : (i j c : ℕ) → get_elem? codes i ≡ some c → get_elem? codes j ≡ some c → i ≡ j
  pub from : Each (λ c. (n : ℕ) × In n x.slots × HasCode a (block_named n) (atom_named n) (length x.path) c) codes
  pub all : Each (λ n. (c : ℕ) × In c codes × HasCode a (block_named n) (atom_named n) (length x.path) c) x.slots

-- a full leaf above depth 5 on the row's walk needs so many pages for its split: a leaf for each next code of its rows,
-- and an inner page for seven of them
pub record NeedsPages (k : Shape) (a : Account) (row : Row) (need : ℕ) : Type 0 where
  pub leaf : Reached
  pub there : In leaf a.tree.reached
  pub kind : leaf.leaf ≡ true
  pub low : length leaf.path < 5
  pub full : length leaf.slots ≡ 14
  pub below : IsBelow leaf.path (own_codes k a row)
  pub codes : List ℕ
  pub next : AreNextCodes a leaf codes
  pub pages : need ≡ length codes + (length codes + 6) / 7

-- a new leaf, or a page behind a full one, needs one page
abbrev pub IsNeeded : Shape → Account → Row → ℕ → Type 0
IsNeeded k a row need = (need ≡ 1) ⊎ NeedsPages k a row need

-- so many pages were needed. The pool refused one while the stock was empty; then pages that had been taken were kept
-- again, which are fewer, and the caller was unpinned
pub record WantsPage (k : Shape) (c d : Seated) (row : Row) : Type 0 where
  pub answered : HasAnswered c d PageWanted
  pub before : Seated
  pub empty : before.stock ≡ []
  pub after : Seated
  pub refused : IsRefused k before after
  pub end : d ≡ with_account (with_stock after d.stock) (after_unpin after.account)
  pub need : ℕ
  pub needed : IsNeeded k after.account row need
  pub short : length d.stock < need

-- no page that was reached in the inner chain of this path shows the code
abbrev pub IsNowhere : List Reached → List ℕ → ℕ → Type 0
IsNowhere reached path code = (y : Reached) → IsMate reached path false y → In code y.slots → ⊥

-- all slots of the page are taken, on each board that has the caller
abbrev pub IsFullOn : Shape → Account → Reached → Type 0
IsFullOn k a x = (p : Parts) (vs : List View) → HasBoard k p vs a → (i : ℕ) → i < page_room x.leaf
    → p.pages x.page (slot_at x.leaf i) ≢ 0

-- the page of this rank in the chain of this path was reached, and is full. An inner page was read to its end
pub record WasFull (k : Shape) (a : Account) (path : List ℕ) (leaf : Bool) (rank : ℕ) : Type 0 where
  pub page : Reached
  pub mate : IsMate a.tree.reached path leaf page
  pub rank_is : page.rank ≡ rank
  pub full : IsFullOn k a page
  pub read : leaf ≡ false → length page.slots ≡ 7

-- each page that a chain may have was reached in a chain on the row's walk, and is full. In an inner chain none shows
-- the row's code
pub record HasFullChain (k : Shape) (a : Account) (row : Row) : Type 0 where
  pub path : List ℕ
  pub leaf : Bool
  pub below : IsBelow path (own_codes k a row)
  pub full : (rank : ℕ) → rank < k.chain → WasFull k a path leaf rank
  pub none : leaf ≡ false → (code : ℕ) → IsBelow (path ++ code ∷ []) (own_codes k a row)
      → IsNowhere a.tree.reached path code

-- a chain on the row's walk was full; that is answered before the caller is unpinned
pub record MetFullChain (k : Shape) (c d : Seated) (row : Row) (pages : ℕ) : Type 0 where
  pub answered : HasAnswered c d (ChainWasFull pages)
  pub all : pages ≡ k.chain
  pub middle : Seated
  pub chain : HasFullChain k middle.account row
  pub end : d ≡ with_account middle (after_unpin (after_answer middle.account (ChainWasFull pages ∷ [])))

-- why a row was not inserted
abbrev pub IsRefusal : Shape → Seated → Seated → Row → InsertError → Type 0
IsRefusal k c d row NoPage = WantsPage k c d row
IsRefusal k c d row (ChainFull pages) = MetFullChain k c d row pages
