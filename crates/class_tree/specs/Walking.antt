-- Where a walk down the class tree stands, and what each part of it leaves of the account (this project's own).
use Rattle.std.specs.Prelude.{◌≡◌, ◌≢◌, ℕ, ◌+◌, ◌*◌, ◌-◌, ◌<◌, ◌≤◌, Bool, true, false, List, [], ◌∷◌, ◌++◌, length}
use Rattle.std.specs.Prelude.{slice_index, take}
use mathlib.Core.Option.{some}
use lib.ListN.{get_elem?}
use Rattle.htss_defs.specs.declared.shape.Shape.{Shape}
use Rattle.board_core.specs.declared.account.Account.{Account}
use Rattle.board_core.specs.declared.account.Who.{Who}
use Rattle.board_core.specs.declared.entry.Noted.{Noted}
use Rattle.board_core.specs.declared.log.LogAccount.{LogAccount}
use Rattle.board_core.specs.declared.loads.ShownLoad.{ShownLoad}
use Rattle.board_core.specs.declared.loads.WordLoad.{WordLoad}
use Rattle.board_core.specs.declared.room.RoomAccount.{RoomAccount}
use Rattle.board_core.specs.declared.room.Row.{Row}
use Rattle.board_core.specs.declared.tree.Link.TheVariants.{Unread}
use Rattle.board_core.specs.declared.tree.Reached.{Reached}
use Rattle.board_core.specs.Each.{In}
use Rattle.board_core.specs.ClassTree.{Place, page_room}
use Rattle.board_core.specs.KnownPages.{place_of}
use Rattle.board_core.specs.Loaded.{IsPage, IsToPlace}
use Rattle.board_core.specs.Rows.{entry_word, own_codes}
use Rattle.board_core.specs.After.{visited}
use Rattle.board.specs.Seated.{Seated, with_account}
use Rattle.class_tree.specs.Loading.{code_loads, LoadsOn}
use Rattle.class_tree.specs.declared.walks.Stop.{Stop}
use Rattle.class_tree.specs.declared.walks.Slot.{Slot}
use Rattle.class_tree.specs.declared.walks.Target.{Target}
use Rattle.class_tree.specs.declared.find.NextPage.{NextPage}
use Rattle.class_tree.specs.declared.find.NextPage.TheVariants.{There, Made}

-- what is known of the page that a walk stands at
abbrev pub here : Account → Stop → Reached
here a s = visited a.tree.reached s.number

-- all of an account that no part of a walk changes, unless it says so
pub record Rest : Type 0 where
  pub who : Who
  pub log : LogAccount
  pub room : RoomAccount
  pub announced : ℕ
  pub begun : List Row
  pub placed : List Row
  pub entries : List Noted
  pub fronts : List ℕ
  pub shown : List ShownLoad
  pub marks : List ShownLoad
  pub facts : List WordLoad

abbrev pub rest_of : Account → Rest
rest_of a = record {
  who = a.who;
  log = a.log;
  room = a.room;
  announced = a.pool.announced;
  begun = a.tree.begun;
  placed = a.tree.placed;
  entries = a.entries;
  fronts = a.loads.fronts;
  shown = a.loads.shown;
  marks = a.loads.marks;
  facts = a.loads.facts;
}

-- what is known of a page apart from the words that lead on
pub record Shown : Type 0 where
  pub page : ℕ
  pub place : Place
  pub slots : List ℕ

abbrev pub shown_of : Reached → Shown
shown_of x = record { page = x.page; place = place_of x; slots = x.slots }

-- no inner page was reached below this depth
abbrev pub AreHigh : Account → ℕ → Type 0
AreHigh a depth = (j : ℕ) → j < length a.tree.reached → (visited a.tree.reached j).leaf ≡ false
    → length (visited a.tree.reached j).path ≤ depth

-- the code was read in no page of the inner chain of this path
abbrev pub IsFresh : Account → List ℕ → ℕ → Type 0
IsFresh a path code = (j : ℕ) → j < length a.tree.reached → (visited a.tree.reached j).leaf ≡ false
    → (visited a.tree.reached j).path ≡ path → In code (visited a.tree.reached j).slots → ⊥

-- from c to d a walk went on, and the first n pages that it has reached are known as they were
pub record Goes (n : ℕ) (c d : Seated) : Type 0 where
  pub table : d.table ≡ c.table
  pub shape : d.shape ≡ c.shape
  pub rest : rest_of d.account ≡ rest_of c.account
  pub grows : LoadsOn c.account d.account
  pub longer : length c.account.tree.reached ≤ length d.account.tree.reached
  pub stays : (j : ℕ) → j < n → shown_of (visited d.account.tree.reached j)
      ≡ shown_of (visited c.account.tree.reached j)

-- the walk stands at the page that it reached last, of which the first slots are known
pub record IsAt (k : Shape) (a : Account) (s : Stop) (path : List ℕ) (rank : ℕ) (leaf : Bool) (known : ℕ) : Type 0 where
  pub pinned : 0 < a.pool.announced
  pub inside : IsPage k s.page
  pub last : length a.tree.reached ≡ s.number + 1
  pub there : (here a s).page ≡ s.page
  pub on : (here a s).path ≡ path
  pub at : (here a s).rank ≡ rank
  pub kind : (here a s).leaf ≡ leaf
  pub size : length (here a s).slots ≡ known
  pub unread : (here a s).more ≡ Unread
  pub not_zero : (here a s).zero ≡ false

-- the pages that a walk may still link from an inner chain of this depth on: one there, at each depth below it one more
-- and the sixteen of a split, and one leaf
abbrev pub left_at : ℕ → ℕ
left_at depth = 17 * (4 - depth) + 2

-- the row that is to be placed, with its entry and its codes
pub record IsTarget (k : Shape) (a : Account) (t : Target) : Type 0 where
  pub entry : entry_word t.row ≡ t.entry
  pub codes_are : t.codes ≡ own_codes k a t.row
  pub some_code : (i : ℕ) → i < 5 → slice_index t.codes i ≢ 0
  pub place : IsToPlace k a [] t.row

-- the walk looks for the row's code of this depth in an inner chain, whose page here has shown its first slots
pub record IsSeeking (k : Shape) (a : Account) (s : Stop) (depth rank known : ℕ) (t : Target) : Type 0 where
  pub at : IsAt k a s (take depth t.codes) rank false known
  pub deep : depth < 5
  pub target : IsTarget k a t
  pub fresh : IsFresh a (take depth t.codes) (slice_index t.codes depth)
  pub high : AreHigh a depth

-- the pages before it in its chain were reached before, and all their slots are taken
pub record WasFullAt (a : Account) (n : ℕ) (path : List ℕ) (leaf : Bool) (rank : ℕ) : Type 0 where
  pub number : ℕ
  pub before : number < n
  pub on : (visited a.tree.reached number).path ≡ path
  pub kind : (visited a.tree.reached number).leaf ≡ leaf
  pub at : (visited a.tree.reached number).rank ≡ rank
  pub full : length (visited a.tree.reached number).slots ≡ page_room leaf

abbrev pub AreFull : Account → ℕ → List ℕ → Bool → ℕ → Type 0
AreFull a n path leaf rank = (r : ℕ) → r < rank → WasFullAt a n path leaf r

-- the row's code of this depth stands in this slot of an inner page
pub record HasCode (k : Shape) (a : Account) (x : Slot) (depth : ℕ) (t : Target) : Type 0 where
  pub rank : ℕ
  pub known : ℕ
  pub at : IsAt k a x.stop (take depth t.codes) rank false known
  pub deep : depth < 5
  pub target : IsTarget k a t
  pub room : x.index < 7
  pub there : get_elem? (here a x.stop).slots x.index ≡ some (slice_index t.codes depth)
  pub high : AreHigh a depth

-- the walk has come to the first page of an inner chain, and nothing was read in that chain
pub record IsDown (k : Shape) (a : Account) (s : Stop) (depth : ℕ) (t : Target) : Type 0 where
  pub at : IsAt k a s (take depth t.codes) 0 false 0
  pub target : IsTarget k a t
  pub fresh : (code : ℕ) → IsFresh a (take depth t.codes) code
  pub high : AreHigh a depth

-- the walk stands at a leaf below the row's codes
pub record IsAtLeaf (k : Shape) (a : Account) (s : Stop) (depth rank known : ℕ) (t : Target) : Type 0 where
  pub at : IsAt k a s (take depth t.codes) rank true known
  pub deep : depth ≤ 5
  pub target : IsTarget k a t

-- the row was placed
pub record Places (c d : Seated) (row : Row) : Type 0 where
  pub table : d.table ≡ c.table
  pub shape : d.shape ≡ c.shape
  pub rest : rest_of d.account ≡ record (rest_of c.account) { placed = c.account.tree.placed ++ row ∷ [] }
  pub grows : LoadsOn c.account d.account

-- only the page of this number was read on: its place is the same
pub record Reads (c d : Seated) (number : ℕ) : Type 0 where
  pub only : d ≡ with_account c (record c.account { tree = record c.account.tree { reached = d.account.tree.reached } })
  pub size : length d.account.tree.reached ≡ length c.account.tree.reached
  pub others : (j : ℕ) → j ≢ number → visited d.account.tree.reached j ≡ visited c.account.tree.reached j
  pub place : place_of (visited d.account.tree.reached number) ≡ place_of (visited c.account.tree.reached number)
  pub page : (visited d.account.tree.reached number).page ≡ (visited c.account.tree.reached number).page

-- the search for the row's code goes on at the next page of the chain, and the page before it is full
pub record IsNext (k : Shape) (c d : Seated) (s next : Stop) (depth rank : ℕ) (t : Target) : Type 0 where
  pub goes : Goes (s.number + 1) c d
  pub number : next.number ≡ s.number + 1
  pub seeking : IsSeeking k d.account next depth (rank + 1) 0 t

-- the page behind it is an own one that was linked with the row's code, which stands in its first slot
pub record IsMadeBehind (k : Shape) (c d : Seated) (s next : Stop) (depth rank : ℕ) (t : Target) : Type 0 where
  pub middle : Seated
  pub on : IsNext k c middle s next depth rank t
  pub reads : Reads middle d next.number
  pub code : HasCode k d.account (record { stop = next; index = 0 }) depth t
  pub linked : d.account.counts.linked ≡ c.account.counts.linked + 1

-- the search goes on at a page that was there, or ends at the one that was made for the code
abbrev pub GoesAlong : Shape → Seated → Seated → Stop → ℕ → ℕ → Target → NextPage → Type 0
GoesAlong k c d s depth rank t (There next) = IsNext k c d s next depth rank t × (d.account.counts ≡ c.account.counts)
GoesAlong k c d s depth rank t (Made next) = IsMadeBehind k c d s next depth rank t

-- the row's code of this depth was found, and one page was linked at most
pub record IsFound (k : Shape) (c d : Seated) (x : Slot) (depth : ℕ) (t : Target) : Type 0 where
  pub goes : Goes 0 c d
  pub linked : d.account.counts.linked ≤ c.account.counts.linked + 1
  pub code : HasCode k d.account x depth t
  pub number : x.stop.number < 65537 * depth + 65536

-- the row was begun, and its five codes were loaded
pub record Begins (k : Shape) (c d : Seated) (row : Row) : Type 0 where
  pub after : d ≡ with_account c d.account
  pub pool : d.account.pool ≡ c.account.pool
  pub loads : d.account.loads ≡ record c.account.loads
      { codes = c.account.loads.codes ++ code_loads row 0 (own_codes k c.account row) }
  pub rest : rest_of d.account ≡ record (rest_of c.account) { begun = c.account.tree.begun ++ row ∷ [] }

-- the row was placed in a leaf, and own pages are as they were
pub record EntersRow (c d : Seated) (row : Row) : Type 0 where
  pub places : Places c d row
  pub pool : d.account.pool ≡ c.account.pool
  pub stock : d.stock ≡ c.stock
