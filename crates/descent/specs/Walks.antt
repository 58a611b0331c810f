-- What a part of a descent did: to the pages that were reached, to the code words that were loaded and to the rows
-- given (this project's own). All of it is told by the caller's account alone: no word of the board and no code of a
-- row is named that was not loaded.
use Rattle.std.specs.Prelude.{◌≡◌, ◌≢◌, ℕ, suc, ◌<◌, ◌≤◌, ◌^◌, ◌⊎◌, Bool, true, false, List, [], ◌∷◌, ◌++◌, length}
use mathlib.Core.Option.{some}
use lib.ListN.{get_elem?}
use Rattle.board_core.specs.declared.tree.Link.{Link}
use Rattle.board_core.specs.declared.tree.Link.TheVariants.{Unread, Absent}
use Rattle.board_core.specs.declared.tree.Reached.{Reached}
use Rattle.board_core.specs.Each.{Each, In}
use Rattle.board_core.specs.ClassTree.{page_room, IsBelow}
use Rattle.board_core.specs.KnownPages.{place_of}
use Rattle.descent.specs.Sweep.{AllCover, IsWhole}
use Rattle.board_core.specs.declared.room.Row.{Row}
use Rattle.board_core.specs.Met.{row_named}
use Rattle.descent.specs.Seats.{CodeLoad, Seat, load, named}
use Rattle.descent.specs.Visits.{visited, IsFresh, with_link}
use Rattle.descent.specs.Moment.{SomeMoment}
use Rattle.descent.specs.Different.{AreDifferent}
use Rattle.descent.specs.Pruned.{AreOnce}

-- a row that was met, and the path of the leaf in which it was
pub record Met : Type 0 where
  pub row : ℕ
  pub path : List ℕ

abbrev pub met : ℕ → List ℕ → Met
met row path = record { row = row; path = path }

abbrev pub rows_of : List Met → List ℕ
rows_of [] = []
rows_of (m ∷ ms) = m.row ∷ rows_of ms

-- it is an entry that was read in a leaf of this path, whose codes cover
pub record IsMet (covers : ℕ → ℕ → Type 0) (rs : List Reached) (m : Met) : Type 0 where
  pub number : ℕ
  pub inside : number < length rs
  pub kind : (visited rs number).leaf ≡ true
  pub path : (visited rs number).path ≡ m.path
  pub there : In m.row (visited rs number).slots
  pub cover : AllCover covers 0 m.path

-- the row's codes were loaded from the first on, up to the first that does not cover
pub record IsSifted (covers : ℕ → ℕ → Type 0) (ls : List CodeLoad) (r : ℕ) : Type 0 where
  pub last : ℕ
  pub most : last < 5
  pub loaded : (i : ℕ) → i ≤ last → (c : ℕ) × In (load r i c) ls × (i < last → covers i c)
      × (i ≡ last → (last ≡ 4) ⊎ (covers i c → ⊥))

-- all five were loaded, and cover; one was loaded that does not
abbrev pub IsGood : (ℕ → ℕ → Type 0) → List CodeLoad → ℕ → Type 0
IsGood covers ls r = (i : ℕ) → i < 5 → (c : ℕ) × In (load r i c) ls × covers i c

abbrev pub IsBad : (ℕ → ℕ → Type 0) → List CodeLoad → ℕ → Type 0
IsBad covers ls r = (i : ℕ) × (c : ℕ) × In (load r i c) ls × (covers i c → ⊥)

-- a load agrees with the codes of the rows
abbrev pub IsTold : (ℕ → List ℕ) → CodeLoad → Type 0
IsTold codes l = get_elem? (codes l.row) l.level ≡ some l.code

-- these rows were loaded by these loads, and those that cover were given
pub record Gained (covers : ℕ → ℕ → Type 0) (rows : List ℕ) (ls : List CodeLoad) (gs : List ℕ) : Type 0 where
  pub different : AreDifferent rows
  pub numbers : Each (λ r. (0 < r) × (r < 2 ^ 64)) rows
  pub only : Each (λ l. In l.row rows) ls
  pub once : AreOnce ls
  pub whole : Each (IsSifted covers ls) rows
  pub picked : Each (λ r. In r rows × IsGood covers ls r) gs
  pub all : (r : ℕ) → In r rows → In r gs ⊎ IsBad covers ls r
  pub differ : AreDifferent gs

-- of the rows met in leaves whose paths begin one path of less than five codes, any that differ are at most 14
abbrev pub FewAt : List Met → Type 0
FewAt ms = (q : List ℕ) → length q < 5 → (ds : List ℕ) → AreDifferent ds
    → Each (λ d. (m : Met) × In m ms × (m.row ≡ d) × IsBelow m.path q) ds → length ds ≤ 14

-- where the row was met: as an entry of this leaf, or below a code of this inner page that covers
abbrev pub Comes : (ℕ → ℕ → Type 0) → Bool → Reached → Met → Type 0
Comes covers true y m = (m.path ≡ y.path) × In m.row y.slots
Comes covers false y m = (c : ℕ) × In c y.slots × covers (length y.path) c × IsBelow (y.path ++ c ∷ []) m.path

-- the same, of a whole chain
abbrev pub Below : (ℕ → ℕ → Type 0) → Bool → List ℕ → Met → Type 0
Below covers true path m = IsBelow path m.path
Below covers false path m = (c : ℕ) × covers (length path) c × IsBelow (path ++ c ∷ []) m.path

-- each code of the page that covers was followed, and the chain there read to its end
abbrev pub IsFollowed : (ℕ → ℕ → Type 0) → List Reached → Reached → Type 0
IsFollowed covers rs y = (i c : ℕ) → get_elem? y.slots i ≡ some c → covers (length y.path) c
    → (get_elem? y.links i ≡ some Absent) ⊎ ((leaf : Bool) × (x : Reached) × IsWhole rs (y.path ++ c ∷ []) leaf x)

-- nothing is left to do at this page
pub record IsDone (covers : ℕ → ℕ → Type 0) (rs : List Reached) (rows : List ℕ) (y : Reached) : Type 0 where
  pub followed : y.leaf ≡ false → IsFollowed covers rs y
  pub read : y.leaf ≡ true → Each (λ r. In r rows) y.slots

-- the rows, the loads and the rows given by a part of a descent
pub record Parts (covers : ℕ → ℕ → Type 0) (a b : Seat) (gs hs : List Row) : Type 0 where
  pub mets : List Met
  pub loads : List CodeLoad
  pub given : List ℕ
  pub loads_are : b.loads ≡ a.loads ++ loads
  pub given_are : hs ≡ gs ++ named given
  pub gained : Gained covers (rows_of mets) loads given
  pub few : FewAt mets
  pub are_met : Each (IsMet covers b.reached) mets

-- pages that were reached before stay as they were known, but for this one
pub record Stay (n : ℕ) (rs ss : List Reached) : Type 0 where
  pub long : length rs ≤ length ss
  pub others : (i : ℕ) → i < length rs → i ≢ n → visited ss i ≡ visited rs i

-- one page was read: to its end, or up to the first slot that was 0
pub record PageRead (chain : ℕ) (covers : ℕ → ℕ → Type 0) (n : ℕ) (leaf : Bool) (a b : Seat) (gs hs : List Row)
    (count : ℕ) (ended : Bool) : Type 0 where
  pub moment : SomeMoment chain b.reached
  pub stay : Stay n a.reached b.reached
  pub place : place_of (visited b.reached n) ≡ place_of (visited a.reached n)
  pub page : (visited b.reached n).page ≡ (visited a.reached n).page
  pub unread : (visited b.reached n).more ≡ Unread
  pub zero : ended ≡ true → (visited b.reached n).zero ≡ true
  pub not_zero : ended ≡ false → (visited b.reached n).zero ≡ false
  pub full : ended ≡ false → length (visited b.reached n).slots ≡ page_room leaf
  pub parts : Parts covers a b gs hs
  pub come : Each (Comes covers leaf (visited b.reached n)) parts.mets
  pub done : (i : ℕ) → (i ≡ n) ⊎ (length a.reached ≤ i) → i < length b.reached
      → IsDone covers b.reached (rows_of parts.mets) (visited b.reached i)
  pub counts : count ≡ length (rows_of parts.mets)

-- a page of which nothing was read yet, where a chain begins or goes on
pub record IsBegun (covers : ℕ → ℕ → Type 0) (rs : List Reached) (n page : ℕ) (leaf : Bool) (depth : ℕ) : Type 0 where
  pub inside : n < length rs
  pub is_page : (visited rs n).page ≡ page
  pub fresh : IsFresh (visited rs n)
  pub kind : (visited rs n).leaf ≡ leaf
  pub is_depth : length (visited rs n).path ≡ depth
  pub cover : AllCover covers 0 (visited rs n).path

-- a chain was read from its first page to its end, and all below it that covers
pub record ChainRead (chain : ℕ) (covers : ℕ → ℕ → Type 0) (n : ℕ) (leaf : Bool) (a b : Seat) (gs hs : List Row)
    (count : ℕ) : Type 0 where
  pub moment : SomeMoment chain b.reached
  pub stay : Stay n a.reached b.reached
  pub end : (e : Reached) × IsWhole b.reached (visited a.reached n).path leaf e
  pub parts : Parts covers a b gs hs
  pub come : Each (Below covers leaf (visited a.reached n).path) parts.mets
  pub done : (i : ℕ) → (i ≡ n) ⊎ (length a.reached ≤ i) → i < length b.reached
      → IsDone covers b.reached (rows_of parts.mets) (visited b.reached i)
  pub counts : count ≡ length (rows_of parts.mets)

-- a row was offered: its codes were loaded from the first on, and say whether all cover
pub record Sifts (covers : ℕ → ℕ → Type 0) (r : ℕ) (a b : Seat) (all : Bool) : Type 0 where
  pub reached : b.reached ≡ a.reached
  pub loads : List CodeLoad
  pub loads_are : b.loads ≡ a.loads ++ loads
  pub levels : (i : ℕ) (l : CodeLoad) → get_elem? loads i ≡ some l → (l.row ≡ r) × (l.level ≡ i)
  pub not_none : 0 < length loads
  pub most : length loads ≤ 5
  pub covered : (i : ℕ) (l : CodeLoad) → get_elem? loads i ≡ some l → suc i < length loads → covers i l.code
  pub good : all ≡ true → (length loads ≡ 5) × ((i : ℕ) (l : CodeLoad) → get_elem? loads i ≡ some l → covers i l.code)
  pub bad : all ≡ false → (i : ℕ) (l : CodeLoad) → get_elem? loads i ≡ some l → suc i ≡ length loads → covers i l.code
      → ⊥

pub record Offered (covers : ℕ → ℕ → Type 0) (r : ℕ) (a b : Seat) (gs hs : List Row) : Type 0 where
  pub all : Bool
  pub sifts : Sifts covers r a b all
  pub gives : (all ≡ true → hs ≡ gs ++ row_named r ∷ []) × (all ≡ false → hs ≡ gs)

-- the last code of an inner page was loaded, at this place, and covers. Its link was not
pub record LeafAt (covers : ℕ → ℕ → Type 0) (rs : List Reached) (n page place depth : ℕ) : Type 0 where
  pub inside : n < length rs
  pub is_page : (visited rs n).page ≡ page
  pub kind : (visited rs n).leaf ≡ false
  pub is_depth : length (visited rs n).path ≡ depth
  pub cover : AllCover covers 0 (visited rs n).path
  pub code : ℕ
  pub there : get_elem? (visited rs n).slots place ≡ some code
  pub covers_it : covers depth code
  pub last : length (visited rs n).slots ≡ suc place
  pub as_many : length (visited rs n).links ≡ suc place
  pub unread : get_elem? (visited rs n).links place ≡ some Unread
  pub not_zero : (visited rs n).zero ≡ false
  pub no_more : (visited rs n).more ≡ Unread

-- its link was loaded, and the chain that it leads to read to its end
pub record Followed (chain : ℕ) (covers : ℕ → ℕ → Type 0) (n place : ℕ) (a b : Seat) (gs hs : List Row)
    (count : ℕ) : Type 0 where
  pub moment : SomeMoment chain b.reached
  pub stay : Stay n a.reached b.reached
  pub link : Link
  pub now : visited b.reached n ≡ with_link place link (visited a.reached n)
  pub code : ℕ
  pub there : get_elem? (visited a.reached n).slots place ≡ some code
  pub way : (link ≡ Absent) ⊎ ((leaf : Bool) × (e : Reached)
      × IsWhole b.reached ((visited a.reached n).path ++ code ∷ []) leaf e)
  pub parts : Parts covers a b gs hs
  pub come : Each (λ m. IsBelow ((visited a.reached n).path ++ code ∷ []) m.path) parts.mets
  pub done : (i : ℕ) → length a.reached ≤ i → i < length b.reached
      → IsDone covers b.reached (rows_of parts.mets) (visited b.reached i)
  pub counts : count ≡ length (rows_of parts.mets)

-- ---- where the sink could take no more

-- the rows given so far cover, and differ
pub record GivenSoFar (covers : ℕ → ℕ → Type 0) (a b : Seat) (gs hs : List Row) : Type 0 where
  pub mets : List Met
  pub loads : List CodeLoad
  pub loads_are : b.loads ≡ a.loads ++ loads
  pub given_are : hs ≡ gs ++ named (rows_of mets)
  pub good : Each (IsGood covers loads) (rows_of mets)
  pub differ : AreDifferent (rows_of mets)
  pub are_met : Each (IsMet covers b.reached) mets

pub record OfferFailed (a b : Seat) (gs hs : List Row) : Type 0 where
  pub reached : b.reached ≡ a.reached
  pub loads : List CodeLoad
  pub loads_are : b.loads ≡ a.loads ++ loads
  pub given_are : hs ≡ gs

pub record PageTried (chain : ℕ) (covers : ℕ → ℕ → Type 0) (n : ℕ) (leaf : Bool) (a b : Seat)
    (gs hs : List Row) : Type 0 where
  pub moment : SomeMoment chain b.reached
  pub stay : Stay n a.reached b.reached
  pub place : place_of (visited b.reached n) ≡ place_of (visited a.reached n)
  pub so_far : GivenSoFar covers a b gs hs
  pub come : Each (Comes covers leaf (visited b.reached n)) so_far.mets

pub record ChainTried (chain : ℕ) (covers : ℕ → ℕ → Type 0) (n : ℕ) (leaf : Bool) (a b : Seat)
    (gs hs : List Row) : Type 0 where
  pub moment : SomeMoment chain b.reached
  pub stay : Stay n a.reached b.reached
  pub so_far : GivenSoFar covers a b gs hs
  pub come : Each (Below covers leaf (visited a.reached n).path) so_far.mets

pub record FollowTried (chain : ℕ) (covers : ℕ → ℕ → Type 0) (n place : ℕ) (a b : Seat)
    (gs hs : List Row) : Type 0 where
  pub moment : SomeMoment chain b.reached
  pub stay : Stay n a.reached b.reached
  pub link : Link
  pub now : visited b.reached n ≡ with_link place link (visited a.reached n)
  pub code : ℕ
  pub there : get_elem? (visited a.reached n).slots place ≡ some code
  pub so_far : GivenSoFar covers a b gs hs
  pub come : Each (λ m. IsBelow ((visited a.reached n).path ++ code ∷ []) m.path) so_far.mets
