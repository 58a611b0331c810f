-- The account after each kind of step.
use Rattle.std.specs.Prelude.{ℕ, zero, suc, ◌+◌, ◌==◌, Bool, true, false, set, take, get_or, List, [], ◌∷◌, ◌++◌, map}
use Rattle.std.specs.Prelude.{length, max, min, Option, Some, None, if◌then◌else◌}
use Rattle.htss_defs.specs.declared.history.Event.{Event}
use Rattle.board_core.specs.declared.account.Account.{Account}
use Rattle.board_core.specs.declared.log.Holding.{Holding}
use Rattle.board_core.specs.declared.log.Holding.TheVariants.{Away, Taken, Fronted}
use Rattle.board_core.specs.declared.log.Ending.{Ending}
use Rattle.board_core.specs.declared.room.RoomAccount.{RoomAccount}
use Rattle.board_core.specs.declared.room.Row.{Row}
use Rattle.board_core.specs.declared.room.Sealed.{Sealed}
use Rattle.board_core.specs.declared.pool.Parted.{Parted}
use Rattle.board_core.specs.declared.tree.Way.TheVariants.{More, Branch}
use Rattle.board_core.specs.declared.tree.Link.{Link}
use Rattle.board_core.specs.declared.pool.Own.{Own}
use Rattle.board_core.specs.Rows.{entry_word}
use Rattle.board_core.specs.declared.tree.Link.TheVariants.{Unread, Absent, To}
use Rattle.board_core.specs.declared.tree.Reached.{Reached}
use Rattle.board_core.specs.declared.tree.Counts.{Counts}
use Rattle.board_core.specs.declared.loads.Loads.{Loads}
use Rattle.board_core.specs.declared.loads.Lengths.{Lengths}
use Rattle.board_core.specs.declared.entry.Entry.{Entry}
use Rattle.board_core.specs.declared.entry.Noted.{Noted}
use Rattle.board_core.specs.Accounts.{nothing, made_by}
use Rattle.board_core.specs.declared.account.Who.TheVariants.{Opener}
use Rattle.board_core.specs.Truths.{entry_of}

abbrev pub lengths_of : Loads → Lengths
lengths_of l = record {
  fronts = length l.fronts;
  epochs = length l.epochs;
  announcements = length l.announcements;
  states = length l.states;
  lost = length l.lost;
  codes = length l.codes;
  facts = length l.facts;
  heads = length l.heads;
  marks = length l.marks;
  shown = length l.shown;
}

-- entries, each with how long the lists are now
abbrev pub noted : Loads → List Entry → List Noted
noted l es = map (λ e. record { entry = e; at = lengths_of l }) es

-- the lock was won
abbrev pub after_take : Account → Account
after_take a = record a { log = record a.log { holding = Taken } }

-- the lock is free; what the call answers is added
abbrev pub after_free : Account → List Entry → Account
after_free a es = record a { log = record a.log { holding = Away }; entries = a.entries ++ noted a.loads es }

-- what a call answers is added
abbrev pub after_answer : Account → List Entry → Account
after_answer a es = record a { entries = a.entries ++ noted a.loads es }

-- the front is known once it is loaded under the lock
abbrev pub fronted : Holding → Holding
fronted Away = Away
fronted Taken = Fronted
fronted Fronted = Fronted

abbrev pub after_front : Account → ℕ → Account
after_front a front = record a {
  log = record a.log { seen = front; holding = fronted a.log.holding };
  loads = record a.loads { fronts = a.loads.fronts ++ front ∷ [] };
}

-- a mark is stored: of a publication, of a withdrawal
abbrev pub after_shows : Account → ℕ → Account
after_shows a block = record a { log = record a.log { pending = record a.log.pending { shows = Some block } } }

abbrev pub after_ends : Account → Ending → Account
after_ends a e = record a { log = record a.log { pending = record a.log.pending { ends = Some e } } }

-- the log word is stored
abbrev pub after_logged : Account → ℕ → Account
after_logged a word = record a { log = record a.log { pending = record a.log.pending { logged = Some word } } }

-- the block that was pending is published
abbrev pub with_published : Option ℕ → RoomAccount → RoomAccount
with_published (Some block) r = record r { published = r.published ++ block ∷ [] }
with_published None r = r

-- the event is shown
abbrev pub after_event : Account → Event → Account
after_event a e = record a {
  log = record a.log { seen = a.log.seen + 1; pending = nothing };
  room = with_published a.log.pending.shows a.room;
  entries = a.entries ++ noted a.loads (entry_of (a.log.seen + 1) e ∷ []);
}

-- a log word was loaded
abbrev pub after_shown : Account → ℕ → ℕ → Account
after_shown a place word = record a {
  loads = record a.loads
      { shown = a.loads.shown ++ record { place = place; word = word; front = a.log.seen } ∷ [] };
}

-- a note was heard
abbrev pub after_hear : Account → ℕ → Account
after_hear a front = record a { log = record a.log { seen = max a.log.seen front } }

-- the opener has made one caller more
abbrev pub after_made : Account → Account
after_made a = record a { who = Opener (made_by a.who + 1) }

-- a word of the own region is stored; it completes these blocks, none or one
abbrev pub after_word : Account → ℕ → List Sealed → Account
after_word a word more =
    record a { room = record a.room { used = a.room.used ++ word ∷ []; sealed = a.room.sealed ++ more } }

-- a code word of a row was loaded; the first word of a block; a mark; a name, atom or bond word
abbrev pub after_code : Account → Row → ℕ → ℕ → Account
after_code a row code word =
    record a { loads = record a.loads { codes = a.loads.codes ++ record { row = row; code = code; word = word } ∷ [] } }

abbrev pub after_head : Account → ℕ → ℕ → Account
after_head a place word =
    record a { loads = record a.loads { heads = a.loads.heads ++ record { place = place; word = word } ∷ [] } }

abbrev pub after_mark : Account → ℕ → ℕ → Account
after_mark a place word = record a {
  loads = record a.loads
      { marks = a.loads.marks ++ record { place = place; word = word; front = a.log.seen } ∷ [] };
}

abbrev pub after_fact : Account → ℕ → ℕ → Account
after_fact a place word =
    record a { loads = record a.loads { facts = a.loads.facts ++ record { place = place; word = word } ∷ [] } }

-- ---- pages and epochs

-- an unlinked page without a stamp has this one
abbrev pub stamp : ℕ → Parted → Parted
stamp e u = record { page = u.page; stamp = if u.stamp == 0 then e else u.stamp }

abbrev pub stamp_all : ℕ → List Parted → List Parted
stamp_all e [] = []
stamp_all e (u ∷ us) = stamp e u ∷ stamp_all e us

-- the epoch was loaded: a scan of announcements begins, and unlinked pages have their stamps
abbrev pub after_epoch : Account → ℕ → Account
after_epoch a e = record a {
  pool = record a.pool { first = e; low = e; passed = 0; parted = stamp_all e a.pool.parted };
  loads = record a.loads { epochs = a.loads.epochs ++ e ∷ [] };
}

-- the epoch after this one has come
abbrev pub after_advance : Account → ℕ → Account
after_advance a e = record a { pool = record a.pool { risen = e + 1 } }

-- the root, as a pin reaches it
abbrev pub root : Reached
root = record {
  page = 1;
  from = 0;
  way = More;
  path = [];
  rank = 0;
  leaf = false;
  slots = [];
  zero = false;
  links = [];
  more = Unread;
}

-- an epoch is announced, and the announcement is taken back
abbrev pub after_pin : Account → ℕ → Account
after_pin a e = record a {
  pool = record a.pool { announced = e };
  tree = record a.tree { front = a.log.seen; reached = root ∷ [] };
}

abbrev pub after_unpin : Account → Account
after_unpin a = record a { pool = record a.pool { announced = 0 }; tree = record a.tree { reached = [] } }

-- an announcement was loaded: the scan has passed one caller more
abbrev pub lower : ℕ → ℕ → ℕ
lower low n = if n == 0 then low else min low n

abbrev pub after_pass : Account → ℕ → Account
after_pass a n = record a {
  pool = record a.pool { low = lower a.pool.low n; passed = a.pool.passed + 1 };
  loads = record a.loads { announcements = a.loads.announcements ++ n ∷ [] };
}

-- the state of a page was loaded; it was found changed by another
abbrev pub after_state : Account → ℕ → ℕ → Account
after_state a p n = record a {
  loads = record a.loads
      { states = a.loads.states ++ record { page = p; word = n } ∷ [] };
}

abbrev pub after_lost : Account → ℕ → ℕ → Account
after_lost a p n = record a { loads = record a.loads { lost = a.loads.lost ++ record { page = p; word = n } ∷ [] } }

-- a page was taken, and nothing stored in it yet
abbrev pub after_page : Account → ℕ → Account
after_page a p = record a { pool = record a.pool { own = record { page = p; words = [] } ∷ a.pool.own } }

-- a page is retired
abbrev pub keep_unless : {A : Type 0} → ℕ → ℕ → A → List A → List A
keep_unless p q x xs = if p == q then xs else x ∷ xs

abbrev pub without : {A : Type 0} → (A → ℕ) → ℕ → List A → List A
without page p [] = []
without page p (x ∷ xs) = keep_unless p (page x) x (without page p xs)

abbrev pub after_retire : Account → ℕ → Account
after_retire a p = record a { pool = record a.pool { parted = without (λ u. u.page) p a.pool.parted } }

-- ---- the class tree

-- word i of an own page is stored: the first i words, and it
abbrev pub with_word : ℕ → ℕ → Own → Own
with_word i n o = record { page = o.page; words = take i o.words ++ n ∷ [] }

abbrev pub put_if : ℕ → ℕ → ℕ → Own → Own
put_if p i n o = if p == o.page then with_word i n o else o

abbrev pub put_own : ℕ → ℕ → ℕ → List Own → List Own
put_own p i n [] = []
put_own p i n (o ∷ os) = put_if p i n o ∷ put_own p i n os

abbrev pub after_own : Account → ℕ → ℕ → ℕ → Account
after_own a p i n = record a { pool = record a.pool { own = put_own p i n a.pool.own } }

-- the page of this number among those that were reached, from 0: the root where there is none
abbrev pub visited : List Reached → ℕ → Reached
visited rs j = get_or rs j root

abbrev pub with_reached : Account → List Reached → Account
with_reached a rs = record a { tree = record a.tree { reached = rs } }

-- a walk begins: what was reached is set aside, and the root is reached
abbrev pub after_walk : Account → Account
after_walk a = with_reached a (root ∷ [])

-- the next code or entry of a page was loaded: 0 is its end
abbrev pub with_slot : ℕ → Reached → Reached
with_slot zero x = record x { zero = true }
with_slot (suc n) x = record x { zero = false; slots = x.slots ++ suc n ∷ []; links = x.links ++ Unread ∷ [] }

abbrev pub after_slot : Account → ℕ → ℕ → Account
after_slot a j n = with_reached a (set a.tree.reached j (with_slot n (visited a.tree.reached j)))

-- a link was loaded
abbrev pub with_link : ℕ → Link → Reached → Reached
with_link i l x = record x { links = set x.links i l }

abbrev pub led : Reached → ℕ → ℕ → ℕ → Bool → Reached
led x i c n leaf = record {
  page = n;
  from = x.page;
  way = Branch i;
  path = x.path ++ c ∷ [];
  rank = 0;
  leaf = leaf;
  slots = [];
  zero = false;
  links = [];
  more = Unread;
}

abbrev pub after_link : Account → ℕ → ℕ → ℕ → ℕ → Bool → Account
after_link a j i c zero leaf = with_reached a (set a.tree.reached j (with_link i Absent (visited a.tree.reached j)))
after_link a j i c (suc n) leaf =
    with_reached a (set a.tree.reached j (with_link i (To (suc n)) (visited a.tree.reached j))
    ++ led (visited a.tree.reached j) i c (suc n) leaf ∷ [])

-- the next page of a chain was loaded
abbrev pub with_more : Link → Reached → Reached
with_more l x = record x { more = l }

abbrev pub next_of : Reached → ℕ → Reached
next_of x n = record {
  page = n;
  from = x.page;
  way = More;
  path = x.path;
  rank = x.rank + 1;
  leaf = x.leaf;
  slots = [];
  zero = false;
  links = [];
  more = Unread;
}

abbrev pub after_more : Account → ℕ → ℕ → Account
after_more a j zero = with_reached a (set a.tree.reached j (with_more Absent (visited a.tree.reached j)))
after_more a j (suc n) = with_reached a (set a.tree.reached j (with_more (To (suc n)) (visited a.tree.reached j))
    ++ next_of (visited a.tree.reached j) (suc n) ∷ [])

-- an own page is in the tree, and a row may be placed with it
abbrev pub let_go : ℕ → List Own → List Own
let_go n os = without (λ o. o.page) n os

abbrev pub more_linked : ℕ → Counts → Counts
more_linked n c = record { linked = c.linked + n }

abbrev pub after_linked : Account → ℕ → List Row → Account
after_linked a n rows = record a {
  pool = record a.pool { own = let_go n a.pool.own };
  counts = more_linked 1 a.counts;
  tree = record a.tree { placed = a.tree.placed ++ rows };
}

abbrev pub after_inner : Account → ℕ → Account
after_inner a n = record a { pool = record a.pool { own = let_go n a.pool.own }; counts = more_linked 1 a.counts }

-- one is the next page of a chain of inner pages: it and its code are known as if they had been loaded
abbrev pub after_next : Account → ℕ → ℕ → ℕ → Account
after_next a j n c = after_slot (after_more (after_inner a n) j n) (length a.tree.reached) c

-- own pages are in the tree in place of a leaf, which is unlinked and has no stamp yet
abbrev pub let_go_all : List ℕ → List Own → List Own
let_go_all [] os = os
let_go_all (n ∷ ns) os = let_go n (let_go_all ns os)

abbrev pub after_split : Account → List ℕ → ℕ → Account
after_split a numbers leaf = record a {
  pool = record a.pool {
    own = let_go_all numbers a.pool.own;
    parted = record { page = leaf; stamp = 0 }
        ∷ a.pool.parted;
  };
  counts = more_linked (length numbers) a.counts;
}

-- an entry is the caller's row
abbrev pub after_entry : Account → ℕ → Row → Account
after_entry a j r = record a {
  tree = record a.tree {
    reached = set a.tree.reached j (with_slot (entry_word r) (visited a.tree.reached j));
    placed = a.tree.placed ++ r
        ∷ [];
  };
}

-- a row is begun
abbrev pub after_begun : Account → Row → Account
after_begun a r = record a { tree = record a.tree { begun = a.tree.begun ++ r ∷ [] } }
