-- What was loaded of sealed blocks: what a step, a split or a join leaves of it.
use Rattle.std.proofs.Common.{◌≡◌, ◌≢◌, ℕ, zero, suc, ◌+◌, ◌-◌, ◌<◌, ◌≤◌, ◌⊎◌, inr, List, [], ◌∷◌, ◌++◌, length, set, sym, refl, ap, ◌∙◌, subst, arith, ⊎_elim}
use mathlib.Core.Option.{some, some-injective, some-ne-none}
use mathlib.Core.Logic.{dite}
use native.Mathlib.Decide.{ℕ_discrete}
use lib.ListN.{get_elem?}
use Rattle.atomic_table.proofs.Lists.{at_longer}
use Rattle.htss_defs.specs.declared.shape.Shape.{Shape}
use Rattle.board_core.specs.declared.account.Who.TheVariants.{Opener, Note}
use Rattle.board_core.specs.declared.account.Account.{Account}
use Rattle.board_core.specs.declared.account.View.{View}
use Rattle.board_core.specs.declared.room.Sealed.{Sealed}
use Rattle.board_core.specs.declared.loads.Loads.{Loads}
use Rattle.board_core.specs.declared.loads.CodeLoad.{CodeLoad}
use Rattle.board_core.specs.declared.loads.ShownLoad.{ShownLoad}
use Rattle.board_core.specs.Each.{Each}
use Rattle.board_core.specs.Words.{stored, regions_at}
use Rattle.board_core.specs.Blocks.{atoms_in, block_size}
use Rattle.board_core.specs.Histories.{block_at}
use Rattle.board_core.specs.Accounts.{account, no_loads, view, opener, with_me, keeping, gone, accounts_in, caller_after, EachAccount}
use Rattle.board_core.specs.Records.{code_word_at}
use Rattle.board_core.specs.SeatRule.{SeatRule}
use Rattle.board_core.specs.RoomRule.{store_of, region_of, room_of, IsSealed, IsMark, RoomFits, RoomRule, SomeAccount, SameSealed}
use Rattle.board_core.specs.FactRule.{IsWordOf, word_at, HeadStands, FactStands, CodeStands, MarkStands, BlocksStand, IsCodeOf, AreOfBlocks, FactRule}
use Rattle.board_core.specs.After.{after_word, after_made, after_hear}
use Rattle.board_core.specs.Steps.{MayStore}
use Rattle.board_core.proofs.Lists.{each_none, each_cons}
use Rattle.board_core.proofs.Everyone.{mine, moved, each_more, each_left, each_gathered}
use Rattle.board_core.proofs.Some.{some_changed, some_more, some_left, some_gathered}
use Rattle.board_core.proofs.Stored.{stored_here, stored_else}
use Rattle.board_core.proofs.BlockWords.{block_least}
use Rattle.board_core.proofs.RoomFrame.{size_least, block_stands}
use Rattle.board_core.proofs.RecordFrame.{code_within}
use Rattle.board_core.proofs.Owner.{IsAt, one_owner, region_least, mark_same}
use Rattle.board_core.proofs.WordRoom.{next_at}

-- ---- blocks stay sealed

-- some block of these has the fact
abbrev pub HasBlock : (Sealed → Type 0) → List Sealed → Type 0
HasBlock P blocks = (j : ℕ) × (s : Sealed) × (get_elem? blocks j ≡ some s) × P s

-- and some account has such a block
abbrev pub SomeBlock : (Sealed → Type 0) → List View → Type 0
SomeBlock P vs = SomeAccount (λ x. HasBlock P x.room.sealed) vs

-- what is sealed in the first views is sealed in the others
abbrev pub Stay : List View → List View → Type 1
Stay vs ws = (P : Sealed → Type 0) → SomeBlock P vs → SomeBlock P ws

-- this word is one of its words, and no mark
abbrev IsIn : ℕ → Sealed → Type 0
IsIn place s = (i : ℕ) × (i < s.size) × (i ≢ 1) × (i ≢ 2) × (place ≡ s.place + i)

pub word_stays_in : (vs ws : List View) (place : ℕ) → Stay vs ws → SomeAccount (λ x. IsWordOf x.room.sealed place) vs → SomeAccount (λ x. IsWordOf x.room.sealed place) ws
word_stays_in vs ws place stay (j, v, at, n, a, there, word) =
    let (b, s, in_list, i, within, not_first, not_second, is) = word in
    let (j', v', at', n', a', there', new) = stay (IsIn place) (j, v, at, n, a, there, (b, s, in_list, (i, within, not_first, not_second, is))) in
    let (b', s', in_list', place') = new in (j', v', at', n', a', there', (b', s', in_list', place'.0, place'.1, place'.2, place'.3, place'.4))

code_stays : (k : Shape) (regions : ℕ → ℕ) (vs ws : List View) (l : CodeLoad) → Stay vs ws → IsCodeOf k regions vs l → IsCodeOf k regions ws l
code_stays k regions vs ws l stay c = record { sealed = stay (λ s. s.place ≡ l.row.block) c.sealed; above = c.above; atom = c.atom; code = c.code }

pub of_blocks_stay : (k : Shape) (regions : ℕ → ℕ) (vs ws : List View) (l : Loads) → Stay vs ws → AreOfBlocks k regions vs l → AreOfBlocks k regions ws l
of_blocks_stay k regions vs ws l stay f = record {
  heads = λ j x there. stay (λ s. s.place ≡ x.place) (f.heads j x there);
  facts = λ j x there. word_stays_in vs ws x.place stay (f.facts j x there);
  codes = λ j x there. code_stays k regions vs ws x stay (f.codes j x there);
  marks = λ j x there. stay (λ s. (x.place ≡ s.place + 1) ⊎ (x.place ≡ s.place + 2)) (f.marks j x there);
}

stay_longer : (vs : List View) (id : ℕ) (v : View) (a : Account) (more : List Sealed) → get_elem? vs id ≡ some v → a.room.sealed ≡ v.me.room.sealed ++ more → Stay vs (set vs id (with_me v a))
stay_longer vs id v a more at longer P t = some_changed (λ x. HasBlock P x.room.sealed) vs id v a at
    (λ h. subst (HasBlock P) (sym longer) (h.0, h.1, at_longer v.me.room.sealed more h.0 h.1 h.2, h.3)) t

pub stay_same : (vs : List View) (id : ℕ) (v : View) (a : Account) → get_elem? vs id ≡ some v → a.room.sealed ≡ v.me.room.sealed → Stay vs (set vs id (with_me v a))
stay_same vs id v a at same P t = some_changed (λ x. HasBlock P x.room.sealed) vs id v a at (subst (HasBlock P) (sym same)) t

-- ---- a step of one account that loads nothing of blocks

-- the same was loaded of blocks
pub record SameLoads (a b : Loads) : Type 0 where
  pub heads : a.heads ≡ b.heads
  pub facts : a.facts ≡ b.facts
  pub codes : a.codes ≡ b.codes
  pub marks : a.marks ≡ b.marks

mark_later : (k : Shape) (regions : ℕ → ℕ) (front more : ℕ) (l : ShownLoad) → front ≤ more → MarkStands k regions front l → MarkStands k regions more l
mark_later k regions front more l later m = record { seen = let seen = m.seen in omega arith; told = m.told; later = m.later }

stand_later : (k : Shape) (regions : ℕ → ℕ) (front more : ℕ) (l : Loads) → front ≤ more → BlocksStand k regions front l → BlocksStand k regions more l
stand_later k regions front more l later f = record { heads = f.heads; facts = f.facts; codes = f.codes; marks = λ j x there. mark_later k regions front more x later (f.marks j x there) }

stand_same : (k : Shape) (regions : ℕ → ℕ) (front : ℕ) (a b : Loads) → SameLoads a b → BlocksStand k regions front b → BlocksStand k regions front a
stand_same k regions front a b same f = record {
  heads = subst (Each (HeadStands k regions)) (sym same.heads) f.heads;
  facts = subst (Each (FactStands k regions)) (sym same.facts) f.facts;
  codes = subst (Each (CodeStands k regions)) (sym same.codes) f.codes;
  marks = subst (Each (MarkStands k regions front)) (sym same.marks) f.marks;
}

of_blocks_same : (k : Shape) (regions : ℕ → ℕ) (vs : List View) (a b : Loads) → SameLoads a b → AreOfBlocks k regions vs b → AreOfBlocks k regions vs a
of_blocks_same k regions vs a b same f = record {
  heads = subst (Each (λ x. SomeAccount (λ y. IsSealed y.room.sealed x.place) vs)) (sym same.heads) f.heads;
  facts = subst (Each (λ x. SomeAccount (λ y. IsWordOf y.room.sealed x.place) vs)) (sym same.facts) f.facts;
  codes = subst (Each (IsCodeOf k regions vs)) (sym same.codes) f.codes;
  marks = subst (Each (λ x. SomeAccount (λ y. IsMark y.room.sealed x.place) vs)) (sym same.marks) f.marks;
}

-- one account was changed, and no block went: what is left to show is of its own loads
pub facts_changed : (k : Shape) (regions : ℕ → ℕ) (front more : ℕ) (vs : List View) (id : ℕ) (v : View) (a : Account) → FactRule k regions front vs → get_elem? vs id ≡ some v → front ≤ more → Stay vs (set vs id (with_me v a))
    → BlocksStand k regions more a.loads → AreOfBlocks k regions (set vs id (with_me v a)) a.loads → FactRule k regions more (set vs id (with_me v a))
facts_changed k regions front more vs id v a r at later stay stand of_blocks = record {
  stand = moved (λ x. BlocksStand k regions front x.loads) (λ x. BlocksStand k regions more x.loads) vs id v a at stand (λ x _. stand_later k regions front more x.loads later) r.stand;
  of_blocks = moved (λ x. AreOfBlocks k regions vs x.loads) (λ x. AreOfBlocks k regions (set vs id (with_me v a)) x.loads) vs id v a at of_blocks (λ x _. of_blocks_stay k regions vs (set vs id (with_me v a)) x.loads stay) r.of_blocks;
}

facts_kept : (k : Shape) (regions : ℕ → ℕ) (front more : ℕ) (vs : List View) (id : ℕ) (v : View) (a : Account) → FactRule k regions front vs → get_elem? vs id ≡ some v → front ≤ more → Stay vs (set vs id (with_me v a)) → SameLoads a.loads v.me.loads → FactRule k regions more (set vs id (with_me v a))
facts_kept k regions front more vs id v a r at later stay same =
    let ws : List View = set vs id (with_me v a) in
    facts_changed k regions front more vs id v a r at later stay
    (stand_same k regions more a.loads v.me.loads same (stand_later k regions front more v.me.loads later (mine (λ x. BlocksStand k regions front x.loads) vs id v at r.stand)))
    (of_blocks_same k regions ws a.loads v.me.loads same (of_blocks_stay k regions vs ws v.me.loads stay (mine (λ x. AreOfBlocks k regions vs x.loads) vs id v at r.of_blocks)))

pub facts_same : (k : Shape) (regions : ℕ → ℕ) (front more : ℕ) (vs : List View) (id : ℕ) (v : View) (a : Account) → FactRule k regions front vs → get_elem? vs id ≡ some v → a.room.sealed ≡ v.me.room.sealed → SameLoads a.loads v.me.loads → front ≤ more → FactRule k regions more (set vs id (with_me v a))
facts_same k regions front more vs id v a r at sealed same later = facts_kept k regions front more vs id v a r at later (stay_same vs id v a at sealed) same

-- ---- a word of the regions is stored

-- what the words of a sealed block but its marks are, where no such word was stored
word_stays : (k : Shape) (regions other : ℕ → ℕ) (vs : List View) (place : ℕ) → SameSealed k regions other vs → SomeAccount (λ x. IsWordOf x.room.sealed place) vs → word_at k other place ≡ word_at k regions place
word_stays k regions other vs place same (j, v, at, n, a, there, word) =
    let (b, s, in_list, i, within, not_first, not_second, is) = word in
    ap (λ z. other (z - regions_at k)) is ∙ (same j v at n a there b s in_list i within not_first not_second ∙ ap (λ z. regions (z - regions_at k)) (sym is))

-- how long a sealed block is, by the table
pub sealed_long : (k : Shape) (regions : ℕ → ℕ) (a : Account) (j : ℕ) (s : Sealed) → RoomFits k regions (store_of a) → get_elem? a.room.sealed j ≡ some s → s.size ≡ block_size (block_at k regions s.place 0)
sealed_long k regions a j s f there = (f.sealed j s there).long ∙ ap block_size (sym (block_stands k regions (store_of a) j s f there).head)

-- its words that are no marks, by their place in it
pub word_in_block : (k : Shape) (regions : ℕ → ℕ) (vs : List View) (block i : ℕ) → EachAccount (λ x. RoomFits k regions (store_of x)) vs → SomeAccount (λ x. IsSealed x.room.sealed block) vs → i < block_size (block_at k regions block 0) → i ≢ 1 → i ≢ 2
    → SomeAccount (λ x. IsWordOf x.room.sealed (block + i)) vs
word_in_block k regions vs block i rooms (j, v, at, n, a, there, sealed) within not_first not_second =
    let (b, s, in_list, place) = sealed in
    let long = sealed_long k regions a b s (rooms j v at n a there) in_list in
    let same : block_size (block_at k regions block 0) ≡ block_size (block_at k regions s.place 0) = ap (λ z. block_size (block_at k regions z 0)) (sym place) in
    (j, v, at, n, a, there, (b, s, in_list, i, omega arith, not_first, not_second, ap (λ z. z + i) (sym place)))

-- a word of a sealed block, that is no mark, stays
block_stays : (k : Shape) (regions other : ℕ → ℕ) (vs : List View) (block i : ℕ) → EachAccount (λ x. RoomFits k regions (store_of x)) vs → SameSealed k regions other vs → SomeAccount (λ x. IsSealed x.room.sealed block) vs → i < block_size (block_at k regions block 0) → i ≢ 1 → i ≢ 2
    → block_at k other block i ≡ block_at k regions block i
block_stays k regions other vs block i rooms same sealed within not_first not_second = word_stays k regions other vs (block + i) same (word_in_block k regions vs block i rooms sealed within not_first not_second)

head_stays : (k : Shape) (regions other : ℕ → ℕ) (vs : List View) (block : ℕ) → EachAccount (λ x. RoomFits k regions (store_of x)) vs → SameSealed k regions other vs → SomeAccount (λ x. IsSealed x.room.sealed block) vs → block_at k other block 0 ≡ block_at k regions block 0
head_stays k regions other vs block rooms same sealed = let least = block_least (block_at k regions block 0) in block_stays k regions other vs block 0 rooms same sealed (omega arith) (λ e. omega arith) (λ e. omega arith)

-- an atom's place from 1 and from 0
code_place : (head atom code : ℕ) → 0 < atom → atom ≤ atoms_in head → code < 5 → (3 ≤ code_word_at head (atom - 1) code) × (code_word_at head (atom - 1) code < block_size head)
code_place head atom code above within few = let atoms : ℕ = atoms_in head in let within' : atom ≤ atoms = within in code_within head (atom - 1) code (less atoms within') few
  where
    less : (atoms : ℕ) → atom ≤ atoms → atom - 1 < atoms
    less atoms h = omega arith

code_word_stays : (k : Shape) (regions other : ℕ → ℕ) (vs : List View) (l : CodeLoad) → EachAccount (λ x. RoomFits k regions (store_of x)) vs → SameSealed k regions other vs → IsCodeOf k regions vs l → CodeStands k regions l → CodeStands k other l
code_word_stays k regions other vs l rooms same c stands =
    let block : ℕ = l.row.block in
    let head : ℕ = block_at k regions block 0 in
    let place = code_place head l.row.atom l.code c.above c.atom c.code in
    let low = place.0 in
    ap (λ h. block_at k other block (code_word_at h (l.row.atom - 1) l.code)) (head_stays k regions other vs block rooms same c.sealed)
    ∙ (block_stays k regions other vs block (code_word_at head (l.row.atom - 1) l.code) rooms same c.sealed place.1 (past low 1 (omega arith)) (past low 2 (omega arith)) ∙ stands)
  where
    past : {place : ℕ} → 3 ≤ place → (n : ℕ) → n < 3 → place ≢ n
    past low n small e = omega arith

code_of_stays : (k : Shape) (regions other : ℕ → ℕ) (vs : List View) (l : CodeLoad) → EachAccount (λ x. RoomFits k regions (store_of x)) vs → SameSealed k regions other vs → IsCodeOf k regions vs l → IsCodeOf k other vs l
code_of_stays k regions other vs l rooms same c = record {
  sealed = c.sealed;
  above = c.above;
  atom = subst (λ h. l.row.atom ≤ atoms_in h) (sym (head_stays k regions other vs l.row.block rooms same c.sealed)) c.atom;
  code = c.code;
}

-- marks that were loaded
abbrev MarksStay : Shape → (ℕ → ℕ) → (ℕ → ℕ) → ℕ → List View → Type 0
MarksStay k regions other front vs = (l : ShownLoad) → SomeAccount (λ x. IsMark x.room.sealed l.place) vs → MarkStands k regions front l → MarkStands k other front l

facts_stored : (k : Shape) (regions other : ℕ → ℕ) (front : ℕ) (vs : List View) → FactRule k regions front vs → EachAccount (λ x. RoomFits k regions (store_of x)) vs → SameSealed k regions other vs → MarksStay k regions other front vs → FactRule k other front vs
facts_stored k regions other front vs r rooms same marks = record {
  stand = λ j v at n a there. let f = r.stand j v at n a there in let of = r.of_blocks j v at n a there in record {
    heads = λ t x in_list. head_stays k regions other vs x.place rooms same (of.heads t x in_list) ∙ f.heads t x in_list;
    facts = λ t x in_list. word_stays k regions other vs x.place same (of.facts t x in_list) ∙ f.facts t x in_list;
    codes = λ t x in_list. code_word_stays k regions other vs x rooms same (of.codes t x in_list) (f.codes t x in_list);
    marks = λ t x in_list. marks x (of.marks t x in_list) (f.marks t x in_list);
  };
  of_blocks = λ j v at n a there. let of = r.of_blocks j v at n a there in record {
    heads = of.heads;
    facts = of.facts;
    codes = λ t x in_list. code_of_stays k regions other vs x rooms same (of.codes t x in_list);
    marks = of.marks;
  };
}

-- ---- the next word of a region

-- it is no word of a sealed block
next_free : (k : Shape) (regions : ℕ → ℕ) (vs : List View) (id loader word : ℕ) (v : View) → SeatRule k vs → EachAccount (λ x. RoomFits k regions (store_of x)) vs → get_elem? vs id ≡ some v → MayStore k v.me loader
    → EachAccount (λ x. Each (λ s. (i : ℕ) → i < s.size → stored regions (next_at k v.me) word (s.place + i - regions_at k) ≡ regions (s.place + i - regions_at k)) x.room.sealed) vs
next_free k regions vs id loader word v seats rooms at may j u there place x here block s in_list i within =
    let f = rooms j u there place x here in
    let fits = f.sealed block s in_list in
    let from = fits.from in
    let until = fits.until in
    let room = f.within in
    let least = region_least k x.who in
    let least_own = region_least k v.me.who in
    let own_room = may.room in
    let size : room_of k v.me.who ≡ k.room = ap (room_of k) may.who in
    stored_else regions (next_at k v.me) word (s.place + i - regions_at k) (λ e.
    let same : s.place + i ≡ region_of k v.me.who + length v.me.room.used = omega arith in
    let one : x ≡ v.me = one_owner k vs x v.me (region_of k v.me.who + length v.me.room.used) seats record { view_place = j; seen_view = u; at = there; place = place; there = here } record { view_place = id; seen_view = v; at = at; place = 0; there = refl }
    record { from = omega arith; until = omega arith } record { from = omega arith; until = omega arith } in
    let end : region_of k x.who + length x.room.used ≡ region_of k v.me.who + length v.me.room.used = ap (λ (y : Account). region_of k y.who + length y.room.used) one in absurd (omega arith))

-- a mark whose word is as it was
mark_kept : (k : Shape) (regions other : ℕ → ℕ) (front : ℕ) (l : ShownLoad) → word_at k other l.place ≡ word_at k regions l.place → MarkStands k regions front l → MarkStands k other front l
mark_kept k regions other front l same m = record {
  seen = m.seen;
  told = λ above within. same ∙ m.told above within;
  later = λ free. subst (λ w. (w ≡ 0) ⊎ (l.front < w)) (sym same) (m.later free);
}

mark_free : (k : Shape) (regions : ℕ → ℕ) (front : ℕ) (vs : List View) (id loader word : ℕ) (v : View) → SeatRule k vs → EachAccount (λ x. RoomFits k regions (store_of x)) vs → get_elem? vs id ≡ some v → MayStore k v.me loader → MarksStay k regions (stored regions (next_at k v.me) word) front vs
mark_free k regions front vs id loader word v seats rooms at may l (j, u, there, place, x, here, mark) m =
    let (block, s, in_list, is) = mark in
    let other : ℕ → ℕ = stored regions (next_at k v.me) word in
    let fits = (rooms j u there place x here).sealed block s in_list in
    let long = size_least (region_of k x.who) x.room.used s fits in
    let free = next_free k regions vs id loader word v seats rooms at may j u there place x here block s in_list in
    let same : (i : ℕ) → i < s.size → l.place ≡ s.place + i → word_at k other l.place ≡ word_at k regions l.place = λ i within e.
    ap (λ z. other (z - regions_at k)) e ∙ (free i within ∙ ap (λ z. regions (z - regions_at k)) (sym e)) in
    mark_kept k regions other front l (⊎_elim (λ (e : l.place ≡ s.place + 1). same 1 (omega arith) e) (λ (e : l.place ≡ s.place + 2). same 2 (omega arith) e) is) m

pub facts_word : (k : Shape) (regions : ℕ → ℕ) (front : ℕ) (slots : ℕ → ℕ) (vs : List View) (id loader word : ℕ) (v : View) (more : List Sealed) → FactRule k regions front vs → SeatRule k vs → RoomRule k regions front slots vs → get_elem? vs id ≡ some v → MayStore k v.me loader
    → FactRule k (stored regions (next_at k v.me) word) front (set vs id (with_me v (after_word v.me word more)))
facts_word k regions front slots vs id loader word v more r seats rooms at may =
    let other : ℕ → ℕ = stored regions (next_at k v.me) word in
    let a : Account = after_word v.me word more in
    facts_kept k other front front vs id v a
    (facts_stored k regions other front vs r rooms.rooms
    (λ j u there place x here block s in_list i within _ _. next_free k regions vs id loader word v seats rooms.rooms at may j u there place x here block s in_list i within)
    (mark_free k regions front vs id loader word v seats rooms.rooms at may))
    at (omega arith) (stay_longer vs id v a more at refl) record { heads = refl; facts = refl; codes = refl; marks = refl }

-- ---- a mark is stored, over one that was no event's

mark_over : (k : Shape) (regions : ℕ → ℕ) (front i n : ℕ) (l : ShownLoad) → front < n → ¬ ((0 < regions i) × (regions i ≤ front)) → l.place - regions_at k ≡ i → MarkStands k regions front l → MarkStands k (stored regions i n) front l
mark_over k regions front i n l ahead free is m =
    let seen = m.seen in
    let before : word_at k regions l.place ≡ regions i = ap regions is in
    let after : word_at k (stored regions i n) l.place ≡ n = ap (stored regions i n) is ∙ stored_here regions i n in record {
      seen = m.seen;
      told = λ above within. let told = m.told above within in absurd (free (omega arith, omega arith));
      later = λ _. inr (omega arith);
    }

pub facts_marked : (k : Shape) (regions : ℕ → ℕ) (front : ℕ) (slots : ℕ → ℕ) (vs : List View) (b : Account) (i n : ℕ) → FactRule k regions front vs → SeatRule k vs → RoomRule k regions front slots vs → IsAt vs b → IsMark b.room.sealed (regions_at k + i) → front < n → ¬ ((0 < regions i) × (regions i ≤ front))
    → FactRule k (stored regions i n) front vs
facts_marked k regions front slots vs b i n r seats rooms q mark ahead free =
    facts_stored k regions (stored regions i n) front vs r rooms.rooms (mark_same k regions vs b i n seats rooms.rooms q mark)
    (λ l _ m. dite (ℕ_discrete (l.place - regions_at k) i)
    (λ same. mark_over k regions front i n l ahead free same m)
    (λ other. mark_kept k regions (stored regions i n) front l (stored_else regions i n (l.place - regions_at k) other) m))

-- ---- splits, joins and the opening

none_stand : (k : Shape) (regions : ℕ → ℕ) (front : ℕ) → BlocksStand k regions front no_loads
none_stand k regions front = record {
  heads = each_none (HeadStands k regions);
  facts = each_none (FactStands k regions);
  codes = each_none (CodeStands k regions);
  marks = each_none (MarkStands k regions front);
}

none_of_blocks : (k : Shape) (regions : ℕ → ℕ) (vs : List View) → AreOfBlocks k regions vs no_loads
none_of_blocks k regions vs = record {
  heads = each_none (λ x. SomeAccount (λ y. IsSealed y.room.sealed x.place) vs);
  facts = each_none (λ x. SomeAccount (λ y. IsWordOf y.room.sealed x.place) vs);
  codes = each_none (IsCodeOf k regions vs);
  marks = each_none (λ x. SomeAccount (λ y. IsMark y.room.sealed x.place) vs);
}

-- what is so of all loads, and of none, is so in the other views
abbrev LoadsStay : List View → List View → Type 1
LoadsStay vs ws = (F : Loads → Type 0) → F no_loads → EachAccount (λ x. F x.loads) vs → EachAccount (λ x. F x.loads) ws

facts_views : (k : Shape) (regions : ℕ → ℕ) (front : ℕ) (vs ws : List View) → FactRule k regions front vs → Stay vs ws → LoadsStay vs ws → FactRule k regions front ws
facts_views k regions front vs ws r stay loads = record {
  stand = loads (BlocksStand k regions front) (none_stand k regions front) r.stand;
  of_blocks = loads (AreOfBlocks k regions ws) (none_of_blocks k regions ws) (λ j v at n a there. of_blocks_stay k regions vs ws a.loads stay (r.of_blocks j v at n a there));
}

pub facts_note : (k : Shape) (regions : ℕ → ℕ) (front : ℕ) (vs : List View) (shape : Shape) (seen : ℕ) → FactRule k regions front vs → FactRule k regions front (vs ++ view shape (account Note seen) ∷ [])
facts_note k regions front vs shape seen r =
    let new : View = view shape (account Note seen) in
    facts_views k regions front vs (vs ++ new ∷ []) r (λ P t. some_more (λ x. HasBlock P x.room.sealed) vs new t) (λ F none all. each_more (λ x. F x.loads) vs (account Note seen) new refl refl none all)

pub facts_caller : (k : Shape) (regions : ℕ → ℕ) (front : ℕ) (vs : List View) (id m : ℕ) (v : View) → FactRule k regions front vs → get_elem? vs id ≡ some v → FactRule k regions front (set vs id (with_me v (after_made v.me)) ++ view k (account (caller_after k m) 0) ∷ [])
facts_caller k regions front vs id m v r at =
    let mid : List View = set vs id (with_me v (after_made v.me)) in
    let new : View = view k (account (caller_after k m) 0) in
    facts_views k regions front mid (mid ++ new ∷ [])
    (facts_same k regions front front vs id v (after_made v.me) r at refl record { heads = refl; facts = refl; codes = refl; marks = refl } (omega arith))
    (λ P t. some_more (λ x. HasBlock P x.room.sealed) mid new t) (λ F none all. each_more (λ x. F x.loads) mid (account (caller_after k m) 0) new refl refl none all)

pub facts_hear : (k : Shape) (regions : ℕ → ℕ) (front : ℕ) (vs : List View) (id seen : ℕ) (v : View) → FactRule k regions front vs → get_elem? vs id ≡ some v → FactRule k regions front (set vs id (with_me v (after_hear v.me seen)))
facts_hear k regions front vs id seen v r at = facts_same k regions front front vs id v (after_hear v.me seen) r at refl record { heads = refl; facts = refl; codes = refl; marks = refl } (omega arith)

-- a note has no blocks
note_blocks : (P : Sealed → Type 0) (seen : ℕ) → (i : ℕ) × (a : Account) × (get_elem? (account Note seen ∷ []) i ≡ some a) × HasBlock P a.room.sealed → ⊥
note_blocks P seen (zero, a, there, h) = let (j, s, in_list, _) = subst (λ (x : Account). HasBlock P x.room.sealed) (sym (some-injective (account Note seen) a there)) h in absurd (some-ne-none s (sym in_list))
note_blocks P seen (suc i, a, there, h) = some-ne-none a (sym there)

pub facts_note_goes : (k : Shape) (regions : ℕ → ℕ) (front : ℕ) (vs : List View) (other seen : ℕ) (w : View) → FactRule k regions front vs → get_elem? vs other ≡ some w → w ≡ view w.shape (account Note seen) → FactRule k regions front (set vs other gone)
facts_note_goes k regions front vs other seen w r there is =
    facts_views k regions front vs (set vs other gone) r
    (λ P t. some_left (λ x. HasBlock P x.room.sealed) vs other w there
    (λ h. note_blocks P seen (subst (λ (x : View). (i : ℕ) × (a : Account) × (get_elem? (accounts_in x) i ≡ some a) × HasBlock P a.room.sealed) is h)) t)
    (λ F none all. each_left (λ x. F x.loads) vs other none all)

pub facts_gather : (k : Shape) (regions : ℕ → ℕ) (front : ℕ) (vs : List View) (id other : ℕ) (v w : View) → FactRule k regions front vs → get_elem? vs id ≡ some v → ¬ (other ≡ id) → get_elem? vs other ≡ some w → FactRule k regions front (set (set vs id (keeping v w)) other gone)
facts_gather k regions front vs id other v w r at apart there =
    facts_views k regions front vs (set (set vs id (keeping v w)) other gone) r
    (λ P t. some_gathered (λ x. HasBlock P x.room.sealed) vs id other v w at apart there t)
    (λ F none all. each_gathered (λ x. F x.loads) vs id other v w at there none all)

-- one account that has loaded nothing
only_opener : (F : Loads → Type 0) (k : Shape) → F no_loads → EachAccount (λ x. F x.loads) (opener k ∷ [])
only_opener F k none = each_cons (λ (u : View). Each (λ x. F x.loads) (accounts_in u)) (opener k) [] (each_cons (λ (x : Account). F x.loads) (account (Opener 0) 0) [] none (each_none (λ (x : Account). F x.loads))) (each_none (λ (u : View). Each (λ x. F x.loads) (accounts_in u)))

pub facts_open : (k : Shape) (regions : ℕ → ℕ) (front : ℕ) → FactRule k regions front (opener k ∷ [])
facts_open k regions front = record {
  stand = only_opener (BlocksStand k regions front) k (none_stand k regions front);
  of_blocks = only_opener (AreOfBlocks k regions (opener k ∷ [])) k (none_of_blocks k regions (opener k ∷ []));
}
