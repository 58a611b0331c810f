-- A word of the own region: what it leaves of the rooms and of the words of sealed blocks.
use Rattle.std.proofs.Common.{◌≡◌, ℕ, ◌+◌, ◌-◌, ◌<◌, ◌≤◌, List, [], ◌∷◌, ◌++◌, length, set, get_or, sym, refl, ap, ◌∙◌, subst, arith, append-nil}
use mathlib.Core.Option.{some}
use mathlib.Core.Logic.{dite}
use native.Mathlib.Decide.{ℕ_discrete}
use lib.ListN.{get_elem?}
use Rattle.htss_defs.specs.declared.shape.Shape.{Shape}
use Rattle.board_core.specs.declared.account.Account.{Account}
use Rattle.board_core.specs.declared.account.View.{View}
use Rattle.board_core.specs.Each.{Each}
use Rattle.board_core.specs.Words.{stored, regions_at}
use Rattle.board_core.specs.Accounts.{with_me, EachAccount, IsOther}
use Rattle.board_core.specs.SeatRule.{SeatRule, WhoFits}
use Rattle.board_core.proofs.Lists.{each_append}
use Rattle.board_core.proofs.Everyone.{mine, moved}
use Rattle.std.proofs.Common.{⊎_elim}
use Rattle.std.proofs.lemmas.List.{length_push, get_or_append_left, get_or_push}
use Rattle.atomic_table.proofs.Lists.{at_longer}
use Rattle.board_core.specs.declared.room.Sealed.{Sealed}
use Rattle.board_core.specs.LogWord.{target_in}
use Rattle.board_core.specs.Blocks.{block_size}
use Rattle.board_core.specs.After.{after_word}
use Rattle.board_core.specs.Steps.{MayStore}
use Rattle.board_core.specs.RoomRule.{store_of, region_of, room_of, IsSealed, IsMark, SealedFits, AreInOrder, RoomFits, ShowsSealed, RoomRule, SameSealed}
use Rattle.board_core.proofs.Lists.{inside, at_end}
use Rattle.board_core.proofs.RoomFrame.{size_least}
use Rattle.board_core.proofs.Some.{some_changed}
use Rattle.board_core.proofs.Owner.{IsInRoom, one_owner, not_other, region_least}
use Rattle.board_core.proofs.Stored.{stored_here, stored_else}

-- what the account adds to its room
pub record Adds (k : Shape) (a : Account) (word : ℕ) (more : List Sealed) : Type 0 where
  pub fits : Each (SealedFits (region_of k a.who) (a.room.used ++ word ∷ [])) more
  pub in_order : AreInOrder (a.room.sealed ++ more)

-- the word's place in the regions
abbrev pub next_at : Shape → Account → ℕ
next_at k a = region_of k a.who + length a.room.used - regions_at k

sealed_longer : (base word : ℕ) (used : List ℕ) (s : Sealed) → SealedFits base used s → SealedFits base (used ++ word ∷ []) s
sealed_longer base word used s f =
    let from = f.from in
    let until = f.until in
    let least = size_least base used s f in
    let longer = length_push used word in
    let same : get_or (used ++ word ∷ []) (s.place - base + 0) 0 ≡ get_or used (s.place - base + 0) 0 = get_or_append_left used (word ∷ []) 0 (s.place - base + 0) (omega arith) in record {
      from = from;
      until = omega arith;
      long = f.long ∙ ap block_size (sym same);
    }

mark_longer : (blocks more : List Sealed) (at : ℕ) → IsMark blocks at → IsMark (blocks ++ more) at
mark_longer blocks more at m = (m.0, m.1, at_longer blocks more m.0 m.1 m.2, m.3)

pub block_longer : (blocks more : List Sealed) (place : ℕ) → IsSealed blocks place → IsSealed (blocks ++ more) place
block_longer blocks more place t = (t.0, t.1, at_longer blocks more t.0 t.1 t.2, t.3)

own_room : (k : Shape) (regions : ℕ → ℕ) (a : Account) (loader word : ℕ) (more : List Sealed) → RoomFits k regions (store_of a) → MayStore k a loader → Adds k a word more → RoomFits k (stored regions (next_at k a) word) (store_of (after_word a word more))
own_room k regions a loader word more f may adds =
    let used : List ℕ = a.room.used in
    let longer = length_push used word in
    let least = region_least k a.who in
    let room = may.room in
    let size : room_of k a.who ≡ k.room = ap (room_of k) may.who in record {
      within = omega arith;
      stands = λ i below unmarked. dite (ℕ_discrete i (length used))
          (λ same. ap (λ z. stored regions (next_at k a) word (region_of k a.who + z - regions_at k)) same ∙ (stored_here regions (next_at k a) word ∙ sym (get_or_push used word 0 i (sym same))))
          (λ other. let before : i < length used = omega arith in
          stored_else regions (next_at k a) word (region_of k a.who + i - regions_at k) (λ e. other (omega arith))
          ∙ (f.stands i before (λ m. unmarked (mark_longer a.room.sealed more (region_of k a.who + i) m)) ∙ sym (get_or_append_left used (word ∷ []) 0 i before)));
      sealed = each_append (SealedFits (region_of k a.who) (used ++ word ∷ [])) a.room.sealed more (λ j s there. sealed_longer (region_of k a.who) word used s (f.sealed j s there)) adds.fits;
      in_order = adds.in_order;
      shows = λ block e. block_longer a.room.sealed more block (f.shows block e);
      logged = λ w e kind. block_longer a.room.sealed more (target_in w) (f.logged w e kind);
    }

pub own_place : (k : Shape) (a : Account) (loader : ℕ) → MayStore k a loader → IsInRoom k a.who (region_of k a.who + length a.room.used)
own_place k a loader may = let room = may.room in let size : room_of k a.who ≡ k.room = ap (room_of k) may.who in record { from = omega arith; until = omega arith }

other_room : (k : Shape) (regions : ℕ → ℕ) (vs : List View) (a x : Account) (loader word : ℕ) → SeatRule k vs → WhoFits k a.who → MayStore k a loader → IsOther vs a x → WhoFits k x.who × RoomFits k regions (store_of x) → RoomFits k (stored regions (next_at k a) word) (store_of x)
other_room k regions vs a x loader word seats fits_a may other (fits_x, f) =
    let within = f.within in
    let least = region_least k x.who in
    let least_own = region_least k a.who in record {
      within = f.within;
      stands = λ i below unmarked. stored_else regions (next_at k a) word (region_of k x.who + i - regions_at k) (λ e.
          let here : region_of k x.who + i ≡ region_of k a.who + length a.room.used = omega arith in
          not_other k vs a x (region_of k a.who + length a.room.used) seats fits_a fits_x other (own_place k a loader may) record { from = omega arith; until = omega arith }) ∙ f.stands i below unmarked;
      sealed = f.sealed;
      in_order = f.in_order;
      shows = f.shows;
      logged = f.logged;
    }

pub word_rooms : (k : Shape) (regions : ℕ → ℕ) (front : ℕ) (slots : ℕ → ℕ) (vs : List View) (id loader word : ℕ) (v : View) (more : List Sealed) → SeatRule k vs → RoomRule k regions front slots vs → get_elem? vs id ≡ some v → MayStore k v.me loader → Adds k v.me word more
    → RoomRule k (stored regions (next_at k v.me) word) front slots (set vs id (with_me v (after_word v.me word more)))
word_rooms k regions front slots vs id loader word v more seats r at may adds =
    let a : Account = after_word v.me word more in
    let both : EachAccount (λ x. WhoFits k x.who × RoomFits k regions (store_of x)) vs = λ j u there i x here. (seats.limits j u there i x here, r.rooms j u there i x here) in record {
      rooms = moved (λ x. WhoFits k x.who × RoomFits k regions (store_of x)) (λ x. RoomFits k (stored regions (next_at k v.me) word) (store_of x)) vs id v a at
          (own_room k regions v.me loader word more (mine (λ x. RoomFits k regions (store_of x)) vs id v at r.rooms) may adds)
          (λ x other f. other_room k regions vs v.me x loader word seats (mine (λ x. WhoFits k x.who) vs id v at seats.limits) may other f) both;
      named = λ i behind kind. some_changed (ShowsSealed (slots i)) vs id v a at (λ t. (t.0, block_longer v.me.room.sealed more (target_in (slots i)) t.1)) (r.named i behind kind);
    }

-- no sealed block has that word
pub word_same : (k : Shape) (regions : ℕ → ℕ) (vs : List View) (id loader word : ℕ) (v : View) → SeatRule k vs → EachAccount (λ x. RoomFits k regions (store_of x)) vs → get_elem? vs id ≡ some v → MayStore k v.me loader → SameSealed k regions (stored regions (next_at k v.me) word) vs
word_same k regions vs id loader word v seats rooms at may j u there place x here block s in_list t within _ _ =
    let f = rooms j u there place x here in
    let fits = f.sealed block s in_list in
    let from = fits.from in
    let until = fits.until in
    let room = f.within in
    let least = region_least k x.who in
    let least_own = region_least k v.me.who in
    stored_else regions (next_at k v.me) word (s.place + t - regions_at k) (λ e.
    let same : s.place + t ≡ region_of k v.me.who + length v.me.room.used = omega arith in
    let one : x ≡ v.me = one_owner k vs x v.me (region_of k v.me.who + length v.me.room.used) seats record { view_place = j; seen_view = u; at = there; place = place; there = here } record { view_place = id; seen_view = v; at = at; place = 0; there = refl }
    record { from = omega arith; until = omega arith } (own_place k v.me loader may) in
    let end : region_of k x.who + length x.room.used ≡ region_of k v.me.who + length v.me.room.used = ap (λ (y : Account). region_of k y.who + length y.room.used) one in absurd (omega arith))

pub in_order_none : (blocks : List Sealed) → AreInOrder blocks → AreInOrder (blocks ++ [])
in_order_none blocks order = subst AreInOrder (sym (append-nil blocks)) order

pub in_order_more : (blocks : List Sealed) (new : Sealed) → AreInOrder blocks → Each (λ t. t.place + t.size ≤ new.place) blocks → AreInOrder (blocks ++ new ∷ [])
in_order_more blocks new order past i j s t at there less = ⊎_elim
    (λ (old : get_elem? blocks j ≡ some t). let below = inside blocks j t old in ⊎_elim
    (λ (first : get_elem? blocks i ≡ some s). order i j s t first old less)
    (λ (last : (i ≡ length blocks) × (new ≡ s)). let e = last.0 in absurd (omega arith))
    (at_end blocks new s i at))
    (λ (last : (j ≡ length blocks) × (new ≡ t)). ⊎_elim
    (λ (first : get_elem? blocks i ≡ some s). subst (λ (z : Sealed). s.place + s.size ≤ z.place) last.1 (past i s first))
    (λ (also : (i ≡ length blocks) × (new ≡ s)). let e = last.0 in let e' = also.0 in absurd (omega arith))
    (at_end blocks new s i at))
    (at_end blocks new t j there)
