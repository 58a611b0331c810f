-- Pages that were reached, by their number, and what each load adds to what is known of one.
use Rattle.std.specs.Prelude.{◌≡◌, ℕ, ◌<◌, Bool, true, false, List, [], ◌∷◌, ◌++◌, length, set, Option, Some, None}
use mathlib.Core.Option.{some}
use lib.ListN.{get_elem?}
use Rattle.board_core.specs.declared.tree.Link.TheVariants.{Unread, Absent, To}
use Rattle.board_core.specs.declared.tree.Reached.{Reached}
use Rattle.board_core.specs.ClassTree.{page_room}
pub use Rattle.board_core.specs.After.{root, visited, with_slot, with_link, with_more, led, next_of}
use Rattle.descent.specs.declared.loads.Visit.{Visit}
use Rattle.descent.specs.Seats.{Seat, with_reached}

pub record IsVisit (rs : List Reached) (v : Visit) : Type 0 where
  pub inside : v.number < length rs
  pub page : (visited rs v.number).page ≡ v.page

-- nothing of it was read
pub record IsFresh (x : Reached) : Type 0 where
  pub slots : x.slots ≡ []
  pub links : x.links ≡ []
  pub zero : x.zero ≡ false
  pub more : x.more ≡ Unread

-- this entry was read in a leaf
pub record IsEntry (rs : List Reached) (n i r : ℕ) : Type 0 where
  pub inside : n < length rs
  pub leaf : (visited rs n).leaf ≡ true
  pub there : get_elem? (visited rs n).slots i ≡ some r

-- the link beside the last code may be loaded, once
pub record MayLink (x : Reached) (i : ℕ) : Type 0 where
  pub inner : x.leaf ≡ false
  pub code : i < length x.slots
  pub as_many : length x.links ≡ length x.slots
  pub unread : get_elem? x.links i ≡ some Unread
  pub not_zero : x.zero ≡ false
  pub no_more : x.more ≡ Unread

pub record MayMore (x : Reached) : Type 0 where
  pub full : length x.slots ≡ page_room x.leaf
  pub not_zero : x.zero ≡ false
  pub unread : x.more ≡ Unread

-- a link was loaded, and the next page
abbrev pub AfterLink : Seat → ℕ → ℕ → Option Visit → Seat → Type 0
AfterLink s n i None t = t ≡ with_reached s (set s.reached n (with_link i Absent (visited s.reached n)))
AfterLink s n i (Some v) t = (v.number ≡ length s.reached)
    × ((c : ℕ) × (leaf : Bool) × (get_elem? (visited s.reached n).slots i ≡ some c)
    × (t ≡ with_reached s (set s.reached n (with_link i (To v.page) (visited s.reached n))
    ++ led (visited s.reached n) i c v.page leaf ∷ [])))

abbrev pub AfterMore : Seat → ℕ → Option Visit → Seat → Type 0
AfterMore s n None t = t ≡ with_reached s (set s.reached n (with_more Absent (visited s.reached n)))
AfterMore s n (Some v) t = (v.number ≡ length s.reached)
    × (t ≡ with_reached s (set s.reached n (with_more (To v.page) (visited s.reached n))
    ++ next_of (visited s.reached n) v.page ∷ []))
