-- Sealed blocks of all accounts: two that share a word of the table are one block of one account, and the place where an account
-- stores its next word is in none.
use Rattle.std.proofs.Common.{◌≡◌, ◌≢◌, ℕ, ◌+◌, ◌-◌, ◌<◌, ◌≤◌, List, length, sym, ap, ◌∙◌, subst, arith, lt_of_not-le}
use mathlib.Core.Option.{some, some-injective}
use mathlib.Core.Logic.{dite}
use native.Mathlib.Decide.{ℕ_discrete, dec_le}
use lib.ListN.{get_elem?}
use Rattle.htss_defs.specs.declared.shape.Shape.{Shape}
use Rattle.board_core.specs.declared.account.Account.{Account}
use Rattle.board_core.specs.declared.account.View.{View}
use Rattle.board_core.specs.declared.room.Sealed.{Sealed}
use Rattle.board_core.specs.Words.{regions_at, stored}
use Rattle.board_core.specs.Accounts.{EachAccount}
use Rattle.board_core.specs.SeatRule.{SeatRule}
use Rattle.board_core.specs.RoomRule.{store_of, region_of, room_of, RoomFits}
use Rattle.board_core.specs.Steps.{MayStore}
use Rattle.board_core.proofs.Owner.{IsAt, IsInRoom, one_owner, region_least}
use Rattle.board_core.proofs.Stored.{stored_here, stored_else}

abbrev pub Rooms : Shape → (ℕ → ℕ) → List View → Type 0
Rooms k regions vs = EachAccount (λ x. RoomFits k regions (store_of x)) vs

-- each account is at its place
pub everywhere : (vs : List View) → EachAccount (IsAt vs) vs
everywhere vs j u at i x there = record { view_place = j; seen_view = u; at = at; place = i; there = there }

pub fits_at : (k : Shape) (regions : ℕ → ℕ) (vs : List View) (a : Account) → Rooms k regions vs → IsAt vs a → RoomFits k regions (store_of a)
fits_at k regions vs a rooms p = rooms p.view_place p.seen_view p.at p.place a p.there

pub word_in_room : (k : Shape) (regions : ℕ → ℕ) (a : Account) (j i : ℕ) (s : Sealed) → RoomFits k regions (store_of a) → get_elem? a.room.sealed j ≡ some s → i < s.size → IsInRoom k a.who (s.place + i)
word_in_room k regions a j i s f there inside =
    let fits = f.sealed j s there in
    let from = fits.from in
    let until = fits.until in
    let within = f.within in record { from = omega arith; until = omega arith }

-- two blocks of one account that share a word
same_sealed : (k : Shape) (regions : ℕ → ℕ) (a : Account) (m n i j : ℕ) (s t : Sealed) → RoomFits k regions (store_of a) → get_elem? a.room.sealed m ≡ some s → get_elem? a.room.sealed n ≡ some t → i < s.size → j < t.size → s.place + i ≡ t.place + j → s ≡ t
same_sealed k regions a m n i j s t f at there inside within same = dite (ℕ_discrete m n)
    (λ one. some-injective s t (sym at ∙ (ap (get_elem? a.room.sealed) one ∙ there)))
    (λ other. dite (dec_le m n)
    (λ before. let order = f.in_order m n s t at there (omega arith) in absurd (omega arith))
    (λ after. let less = lt_of_not-le after in let order = f.in_order n m t s there at less in absurd (omega arith)))

-- word i of block s of account a is word j of block t of account b
pub record AreOne (a b : Account) (s t : Sealed) (i j : ℕ) : Type 0 where
  pub account : a ≡ b
  pub block : s ≡ t
  pub word : i ≡ j

pub one_block : (k : Shape) (regions : ℕ → ℕ) (vs : List View) (a b : Account) (m n i j : ℕ) (s t : Sealed) → SeatRule k vs → Rooms k regions vs → IsAt vs a → IsAt vs b
    → get_elem? a.room.sealed m ≡ some s → get_elem? b.room.sealed n ≡ some t → i < s.size → j < t.size → s.place + i ≡ t.place + j → AreOne a b s t i j
one_block k regions vs a b m n i j s t seats rooms p q at there inside within same =
    let owner : a ≡ b = one_owner k vs a b (s.place + i) seats p q (word_in_room k regions a m i s (fits_at k regions vs a rooms p) at inside)
    (subst (IsInRoom k b.who) (sym same) (word_in_room k regions b n j t (fits_at k regions vs b rooms q) there within)) in
    let block : s ≡ t = same_sealed k regions b m n i j s t (fits_at k regions vs b rooms q) (subst (λ (x : Account). get_elem? x.room.sealed m ≡ some s) owner at) there inside within same in
    let place : s.place ≡ t.place = ap (λ (x : Sealed). x.place) block in record { account = owner; block = block; word = omega arith }

-- ---- the next word

pub next_in_room : (k : Shape) (a : Account) (loader : ℕ) → MayStore k a loader → IsInRoom k a.who (region_of k a.who + length a.room.used)
next_in_room k a loader may = let room = may.room in let size : room_of k a.who ≡ k.room = ap (room_of k) may.who in record { from = omega arith; until = omega arith }

pub not_next : (k : Shape) (regions : ℕ → ℕ) (vs : List View) (a b : Account) (loader n i : ℕ) (s : Sealed) → SeatRule k vs → Rooms k regions vs → IsAt vs a → IsAt vs b → MayStore k a loader
    → get_elem? b.room.sealed n ≡ some s → i < s.size → s.place + i ≢ region_of k a.who + length a.room.used
not_next k regions vs a b loader n i s seats rooms p q may there inside same =
    let f = fits_at k regions vs b rooms q in
    let owner : b ≡ a = one_owner k vs b a (s.place + i) seats q p (word_in_room k regions b n i s f there inside) (subst (IsInRoom k a.who) (sym same) (next_in_room k a loader may)) in
    let end : region_of k b.who + length b.room.used ≡ region_of k a.who + length a.room.used = ap (λ (x : Account). region_of k x.who + length x.room.used) owner in
    let until = (f.sealed n s there).until in omega arith

-- ---- a word is stored

pub stored_there : (k : Shape) (regions : ℕ → ℕ) (i n place : ℕ) → regions_at k + i ≡ place → stored regions i n (place - regions_at k) ≡ n
stored_there k regions i n place is = let back : place - regions_at k ≡ i = omega arith in ap (stored regions i n) back ∙ stored_here regions i n

pub stored_apart : (k : Shape) (regions : ℕ → ℕ) (i n place : ℕ) → regions_at k ≤ place → place ≢ regions_at k + i → stored regions i n (place - regions_at k) ≡ regions (place - regions_at k)
stored_apart k regions i n place past other = stored_else regions i n (place - regions_at k) (λ e. other (omega arith))

-- a word of a sealed block is a word of the regions
pub block_past : (k : Shape) (regions : ℕ → ℕ) (a : Account) (n i : ℕ) (s : Sealed) → RoomFits k regions (store_of a) → get_elem? a.room.sealed n ≡ some s → regions_at k ≤ s.place + i
block_past k regions a n i s f there = let from = (f.sealed n s there).from in let least = region_least k a.who in omega arith
