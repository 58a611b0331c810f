-- The marks of blocks, where a word of the own region is stored: those of sealed blocks are as they were, and both of a new block
-- are 0.
use Rattle.std.proofs.Common.{◌≡◌, ℕ, ◌+◌, ◌-◌, ◌<◌, ◌≤◌, List, [], ◌∷◌, ◌++◌, set, sym, refl, ap, ◌∙◌, subst, arith, append-nil, ⊎_elim}
use Rattle.std.specs.Prelude.{Some}
use Rattle.std.proofs.lemmas.List.{length_push}
use mathlib.Core.Option.{some}
use lib.ListN.{get_elem?}
use Rattle.atomic_table.proofs.Lists.{set_here}
use Rattle.htss_defs.specs.declared.shape.Shape.{Shape}
use Rattle.board_core.specs.declared.account.Account.{Account}
use Rattle.board_core.specs.declared.account.View.{View}
use Rattle.board_core.specs.declared.log.Ending.{Ending}
use Rattle.board_core.specs.declared.log.Pending.{Pending}
use Rattle.board_core.specs.declared.room.Sealed.{Sealed}
use Rattle.board_core.specs.Each.{Each}
use Rattle.board_core.specs.Words.{regions_at, stored}
use Rattle.board_core.specs.Blocks.{shown_at, ended_at}
use Rattle.board_core.specs.Histories.{block_at}
use Rattle.board_core.specs.Accounts.{EachAccount, with_me}
use Rattle.board_core.specs.SeatRule.{SeatRule}
use Rattle.board_core.specs.RoomRule.{store_of, region_of, room_of, own_block, IsSealed, IsMark, SealedFits, AreInOrder, RoomFits, SomeAccount, RoomRule}
use Rattle.board_core.specs.MarkRule.{ShowsAt, EndsAt, MarkFits, PendingFits, AreListed, MarksFit, MarkRule, is_shown_by, is_ended_by}
use Rattle.board_core.specs.After.{after_word}
use Rattle.board_core.specs.Steps.{MayStore, MaySeal}
use Rattle.board_core.proofs.Lists.{inside, each_none, each_append}
use Rattle.board_core.proofs.Everyone.{mine, changed, moved}
use Rattle.board_core.proofs.Some.{some_changed}
use Rattle.board_core.proofs.RoomFrame.{size_least}
use Rattle.board_core.proofs.Owner.{IsAt, IsInRoom, one_owner, region_least}
use Rattle.board_core.proofs.WordRoom.{next_at, block_longer, word_rooms}
use Rattle.board_core.proofs.OneBlock.{Rooms, everywhere, fits_at, word_in_room, not_next, stored_apart, block_past}

-- ---- what stays, whatever is stored

-- a mark is as it was, and where its event was pending it still is
pub mark_kept : (front : ℕ) (IsEvent : ℕ → Type 0) (P Q : Type 0) (mark other : ℕ) → other ≡ mark → (P → Q) → MarkFits front IsEvent P mark → MarkFits front IsEvent Q other
mark_kept front IsEvent P Q mark other same keeps f = subst (MarkFits front IsEvent Q) (sym same) record { told = f.told; ahead = λ past. let t = f.ahead past in (t.0, keeps t.1); stands = f.stands }

-- what is pending stays, where its mark does
pub pending_kept : (k : Shape) (regions other : ℕ → ℕ) (front : ℕ) (slots : ℕ → ℕ) (p : Pending) → ((block : ℕ) → p.shows ≡ Some block → block_at k other block shown_at ≡ block_at k regions block shown_at)
    → ((e : Ending) → p.ends ≡ Some e → ShowsAt front slots e.block e.target → block_at k other e.block ended_at ≡ block_at k regions e.block ended_at)
    → PendingFits k regions front slots p → PendingFits k other front slots p
pending_kept k regions other front slots p first last f = record {
  shows = λ block is. let t = f.shows block is in (t.0, first block is ∙ t.1);
  ends = λ e is. let t = f.ends e is in (t.0, last e is t.0 ∙ t.1);
  publication = f.publication;
  withdrawal = f.withdrawal;
}

-- a block that an event shows is sealed
pub shows_sealed : (k : Shape) (regions : ℕ → ℕ) (front : ℕ) (slots : ℕ → ℕ) (vs : List View) (block number : ℕ) → RoomRule k regions front slots vs → ShowsAt front slots block number → SomeAccount (λ x. IsSealed x.room.sealed block) vs
shows_sealed k regions front slots vs block number r t =
    let above = t.above in
    let within = t.within in
    let (j, u, there, place, b, here, shown) = r.named (number - 1) (omega arith) t.kind in
    (j, u, there, place, b, here, subst (IsSealed b.room.sealed) t.names shown.1)

-- ---- the word is in no sealed block

word_kept : (k : Shape) (regions : ℕ → ℕ) (vs : List View) (a b : Account) (loader word n i : ℕ) (s : Sealed) → SeatRule k vs → Rooms k regions vs → IsAt vs a → IsAt vs b → MayStore k a loader → get_elem? b.room.sealed n ≡ some s → i < s.size
    → block_at k (stored regions (next_at k a) word) s.place i ≡ block_at k regions s.place i
word_kept k regions vs a b loader word n i s seats rooms p q may there within =
    let f = fits_at k regions vs b rooms q in
    let past = block_past k regions b n i s f there in
    let least = region_least k a.who in
    stored_apart k regions (next_at k a) word (s.place + i) past (λ e. not_next k regions vs a b loader n i s seats rooms p q may there within (omega arith))

-- so both marks of a sealed block are as they were
marks_kept : (k : Shape) (regions : ℕ → ℕ) (vs : List View) (a b : Account) (loader word place i : ℕ) → SeatRule k vs → Rooms k regions vs → IsAt vs a → IsAt vs b → MayStore k a loader → IsSealed b.room.sealed place → i < 3
    → block_at k (stored regions (next_at k a) word) place i ≡ block_at k regions place i
marks_kept k regions vs a b loader word place i seats rooms p q may (n, s, there, is) low =
    let least = size_least (region_of k b.who) b.room.used s ((fits_at k regions vs b rooms q).sealed n s there) in
    subst (λ (z : ℕ). block_at k (stored regions (next_at k a) word) z i ≡ block_at k regions z i) is (word_kept k regions vs a b loader word n i s seats rooms p q may there (omega arith))

word_pending : (k : Shape) (regions : ℕ → ℕ) (front : ℕ) (slots : ℕ → ℕ) (vs : List View) (a x : Account) (loader word : ℕ) → SeatRule k vs → RoomRule k regions front slots vs → IsAt vs a → MayStore k a loader → IsAt vs x → PendingFits k regions front slots x.log.pending
    → PendingFits k (stored regions (next_at k a) word) front slots x.log.pending
word_pending k regions front slots vs a x loader word seats r p may q f = pending_kept k regions (stored regions (next_at k a) word) front slots x.log.pending
    (λ block is. marks_kept k regions vs a x loader word block shown_at seats r.rooms p q may ((fits_at k regions vs x r.rooms q).shows block is) (omega arith))
    (λ e is t. let (j, u, there, place, b, here, sealed) = shows_sealed k regions front slots vs e.block e.target r t in
    marks_kept k regions vs a b loader word e.block ended_at seats r.rooms p record { view_place = j; seen_view = u; at = there; place = place; there = here } may sealed (omega arith)) f

-- a block that was sealed before
word_block : (k : Shape) (regions : ℕ → ℕ) (front : ℕ) (slots : ℕ → ℕ) (vs : List View) (id loader word : ℕ) (v : View) (more : List Sealed) (x : Account) (n : ℕ) (s : Sealed) → SeatRule k vs → RoomRule k regions front slots vs → get_elem? vs id ≡ some v → MayStore k v.me loader
    → IsAt vs x → get_elem? x.room.sealed n ≡ some s → MarksFit k regions front slots vs x.room.published s
    → MarksFit k (stored regions (next_at k v.me) word) front slots (set vs id (with_me v (after_word v.me word more))) x.room.published s
word_block k regions front slots vs id loader word v more x n s seats r at may q there f =
    let a : Account = after_word v.me word more in
    let p : IsAt vs v.me = record { view_place = id; seen_view = v; at = at; place = 0; there = refl } in
    let sealed : IsSealed x.room.sealed s.place = (n, s, there, refl) in record {
      first = mark_kept front (ShowsAt front slots s.place) (SomeAccount (is_shown_by s.place) vs) (SomeAccount (is_shown_by s.place) (set vs id (with_me v a))) _ _
          (marks_kept k regions vs v.me x loader word s.place shown_at seats r.rooms p q may sealed (omega arith)) (some_changed (is_shown_by s.place) vs id v a at (λ t. t)) f.first;
      last = mark_kept front (EndsAt front slots s.place) (SomeAccount (is_ended_by s.place) vs) (SomeAccount (is_ended_by s.place) (set vs id (with_me v a))) _ _
          (marks_kept k regions vs v.me x loader word s.place ended_at seats r.rooms p q may sealed (omega arith)) (some_changed (is_ended_by s.place) vs id v a at (λ t. t)) f.last;
      noted = f.noted;
    }

-- ---- a new block

-- no event shows it: the account that has it sealed would be this one, and its blocks lie before
new_not_shown : (k : Shape) (regions : ℕ → ℕ) (front : ℕ) (slots : ℕ → ℕ) (vs : List View) (id loader word number : ℕ) (v : View) (s : Sealed) → SeatRule k vs → RoomRule k regions front slots vs → get_elem? vs id ≡ some v → MayStore k v.me loader → MaySeal k v.me word s
    → ShowsAt front slots s.place number → ⊥
new_not_shown k regions front slots vs id loader word number v s seats r at may seals t =
    let (j, u, there, place, b, here, sealed) = shows_sealed k regions front slots vs s.place number r t in
    let (n, old, in_list, is) = sealed in
    let p : IsAt vs v.me = record { view_place = id; seen_view = v; at = at; place = 0; there = refl } in
    let q : IsAt vs b = record { view_place = j; seen_view = u; at = there; place = place; there = here } in
    let f = fits_at k regions vs b r.rooms q in
    let its_low = size_least (region_of k b.who) b.room.used old (f.sealed n old in_list) in
    let low = size_least (region_of k v.me.who) (v.me.room.used ++ word ∷ []) s seals.fits in
    let from = seals.fits.from in
    let until = seals.fits.until in
    let longer = length_push v.me.room.used word in
    let room = may.room in
    let size : room_of k v.me.who ≡ k.room = ap (room_of k) may.who in
    let in_b : IsInRoom k b.who (old.place + 0) = word_in_room k regions b n 0 old f in_list (omega arith) in
    let in_mine : IsInRoom k v.me.who (old.place + 0) = record { from = omega arith; until = omega arith } in
    let owner : b ≡ v.me = one_owner k vs b v.me (old.place + 0) seats q p in_b in_mine in
    let before = seals.past n old (subst (λ (x : Account). get_elem? x.room.sealed n ≡ some old) owner in_list) in omega arith

-- a mark of the new block is no mark of an old one
new_unmarked : (k : Shape) (regions : ℕ → ℕ) (a : Account) (word place : ℕ) (s : Sealed) → RoomFits k regions (store_of a) → MaySeal k a word s → s.place ≤ place → ¬ (IsMark (a.room.sealed ++ []) place)
new_unmarked k regions a word place s f seals past m =
    let (n, old, there, is) = subst (λ (l : List Sealed). IsMark l place) (append-nil a.room.sealed) m in
    let low = size_least (region_of k a.who) a.room.used old (f.sealed n old there) in
    let before = seals.past n old there in
    ⊎_elim (λ (e : place ≡ old.place + 1). omega arith) (λ (e : place ≡ old.place + 2). omega arith) is

-- what stands of the new block is what the account has stored
new_word : (k : Shape) (regions : ℕ → ℕ) (front : ℕ) (slots : ℕ → ℕ) (vs : List View) (id loader word i : ℕ) (v : View) (s : Sealed) → SeatRule k vs → RoomRule k regions front slots vs → get_elem? vs id ≡ some v → MayStore k v.me loader → MaySeal k v.me word s → i < 3
    → block_at k (stored regions (next_at k v.me) word) s.place i ≡ own_block k (store_of (after_word v.me word [])) s.place i
new_word k regions front slots vs id loader word i v s seats r at may seals low =
    let a : Account = after_word v.me word [] in
    let old = mine (λ x. RoomFits k regions (store_of x)) vs id v at r.rooms in
    let order : AreInOrder (v.me.room.sealed ++ []) = subst AreInOrder (sym (append-nil v.me.room.sealed)) old.in_order in
    let after = word_rooms k regions front slots vs id loader word v [] seats r at may record { fits = each_none (SealedFits (region_of k v.me.who) (v.me.room.used ++ word ∷ [])); in_order = order } in
    let f : RoomFits k (stored regions (next_at k v.me) word) (store_of a) = mine (λ x. RoomFits k (stored regions (next_at k v.me) word) (store_of x)) (set vs id (with_me v a)) id (with_me v a) (set_here vs id (with_me v a) (inside vs id v at)) after.rooms in
    let from = seals.fits.from in
    let until = seals.fits.until in
    let least = size_least (region_of k v.me.who) (v.me.room.used ++ word ∷ []) s seals.fits in
    let off : ℕ = s.place - region_of k v.me.who in
    let same : s.place + i ≡ region_of k v.me.who + (off + i) = omega arith in
    ap (λ z. stored regions (next_at k v.me) word (z - regions_at k)) same ∙ f.stands (off + i) (omega arith) (new_unmarked k regions v.me word (region_of k v.me.who + (off + i)) s old seals (omega arith))

-- a mark that is 0, of no event
mark_none : (front : ℕ) (IsEvent : ℕ → Type 0) (P : Type 0) (mark : ℕ) → mark ≡ 0 → ((number : ℕ) → IsEvent number → ⊥) → MarkFits front IsEvent P mark
mark_none front IsEvent P mark none no_event = record { told = λ above _. absurd (omega arith); ahead = λ past. absurd (omega arith); stands = λ number t. absurd (no_event number t) }

new_block : (k : Shape) (regions : ℕ → ℕ) (front : ℕ) (slots : ℕ → ℕ) (vs : List View) (id loader word : ℕ) (v : View) (others : List View) (published : List ℕ) (s : Sealed) → SeatRule k vs → RoomRule k regions front slots vs → get_elem? vs id ≡ some v → MayStore k v.me loader → MaySeal k v.me word s
    → MarksFit k (stored regions (next_at k v.me) word) front slots others published s
new_block k regions front slots vs id loader word v others published s seats r at may seals =
    let none : (number : ℕ) → ShowsAt front slots s.place number → ⊥ = λ number t. new_not_shown k regions front slots vs id loader word number v s seats r at may seals t in record {
      first = mark_none front (ShowsAt front slots s.place) (SomeAccount (is_shown_by s.place) others) _ (new_word k regions front slots vs id loader word shown_at v s seats r at may seals (omega arith) ∙ seals.first) none;
      last = mark_none front (EndsAt front slots s.place) (SomeAccount (is_ended_by s.place) others) _ (new_word k regions front slots vs id loader word ended_at v s seats r at may seals (omega arith) ∙ seals.last) (λ number t. none _ t.shown);
      noted = λ number t. absurd (none number t);
    }

-- ---- the whole

pub word_marks : (k : Shape) (regions : ℕ → ℕ) (front : ℕ) (slots : ℕ → ℕ) (vs : List View) (id loader word : ℕ) (v : View) (more : List Sealed) → MarkRule k regions front slots vs → SeatRule k vs → RoomRule k regions front slots vs → get_elem? vs id ≡ some v → MayStore k v.me loader → Each (MaySeal k v.me word) more
    → MarkRule k (stored regions (next_at k v.me) word) front slots (set vs id (with_me v (after_word v.me word more)))
word_marks k regions front slots vs id loader word v more m seats r at may seals =
    let a : Account = after_word v.me word more in
    let new : ℕ → ℕ = stored regions (next_at k v.me) word in
    let others : List View = set vs id (with_me v a) in
    let p : IsAt vs v.me = record { view_place = id; seen_view = v; at = at; place = 0; there = refl } in
    let pending : EachAccount (λ x. IsAt vs x × PendingFits k regions front slots x.log.pending) vs = λ j u there i x here. (everywhere vs j u there i x here, m.pending j u there i x here) in
    let marks : EachAccount (λ x. IsAt vs x × Each (MarksFit k regions front slots vs x.room.published) x.room.sealed) vs = λ j u there i x here. (everywhere vs j u there i x here, m.marks j u there i x here) in record {
      pending = moved (λ x. IsAt vs x × PendingFits k regions front slots x.log.pending) (λ x. PendingFits k new front slots x.log.pending) vs id v a at
          (word_pending k regions front slots vs v.me v.me loader word seats r p may p (mine (λ x. PendingFits k regions front slots x.log.pending) vs id v at m.pending))
          (λ x _ f. word_pending k regions front slots vs v.me x loader word seats r p may f.0 f.1) pending;
      marks = moved (λ x. IsAt vs x × Each (MarksFit k regions front slots vs x.room.published) x.room.sealed) (λ x. Each (MarksFit k new front slots others x.room.published) x.room.sealed) vs id v a at
          (each_append (MarksFit k new front slots others v.me.room.published) v.me.room.sealed more
          (λ n s there. word_block k regions front slots vs id loader word v more v.me n s seats r at may p there (mine (λ x. Each (MarksFit k regions front slots vs x.room.published) x.room.sealed) vs id v at m.marks n s there))
          (λ n s there. new_block k regions front slots vs id loader word v others v.me.room.published s seats r at may (seals n s there)))
          (λ x _ f n s there. word_block k regions front slots vs id loader word v more x n s seats r at may f.0 there (f.1 n s there)) marks;
      listed = changed (λ x. AreListed x.room) vs id v a at (λ place t. block_longer v.me.room.sealed more place (mine (λ x. AreListed x.room) vs id v at m.listed place t)) m.listed;
    }
