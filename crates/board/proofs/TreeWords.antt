-- The places of page words, and the steps on them as the calls ask for them.
use Rattle.std.proofs.Common.{◌≡◌, ◌≢◌, ℕ, zero, suc, Bool, refl, ◌+◌, ◌*◌, ◌-◌, ◌<◌, ◌≤◌, List, length, sym, ap, ◌∙◌, subst, arith}
use mathlib.Core.Option.{none}
use mathlib.Core.Logic.{dite}
use native.Mathlib.Decide.{ℕ_discrete}
use Rattle.atomic_table.specs.Table.{Step, step, Allows}
use Rattle.htss_defs.specs.declared.shape.Shape.{Shape}
use Rattle.board_core.specs.declared.account.Account.{Account}
use Rattle.board_core.specs.declared.log.LogAccount.{LogAccount}
use Rattle.board_core.specs.declared.room.RoomAccount.{RoomAccount}
use Rattle.board_core.specs.declared.pool.Own.{Own}
use Rattle.board_core.specs.Sheets.{owns}
use Rattle.board_core.specs.ClassTree.{slot_at, page_room}
use Rattle.board_core.specs.SeatRule.{WhoFits}
use Rattle.board_core.specs.Loaded.{IsVisit, page_word}
use Rattle.board_core.specs.Holds.{Holds}
use Rattle.board_core.specs.After.{visited, let_go, put_own, after_own, after_slot, after_link, after_more, after_inner, after_next}
use Rattle.board_core.specs.MarkRule.{IsAmong}
use Rattle.board_core.proofs.PageSums.{without_else}
use Rattle.board_core.specs.Steps.{Mine, became, MayStoreOwn, MayLoadSlot, MayLoadLink, MayLoadMore, StoresOwn, LoadsHeader, LoadsSlot, LoadsLink, LoadsMore, Claim, LeafBelow, EntryOf, CodeOf, LeafBehind, InnerBehind, after_claim, LoadsInstead, ClaimsWord}
use Rattle.board_core.proofs.StoreOwn.{owns_put, own_allowed}
use Rattle.board_core.specs.Boards.{OnBoard}
use Rattle.board_core.proofs.Boards.{on_board}
use Rattle.board_core.proofs.LoadPage.{slot_small, header_allowed, slot_allowed, link_allowed, more_allowed}
use Rattle.board_core.proofs.ClaimWord.{KeepsCaller, claim_keeps}
use Rattle.board_core.specs.declared.room.Row.{Row}
use Rattle.board_core.specs.Records.{code_word_at}
use Rattle.board_core.specs.Steps.{MayLoadOwn, LoadsOwnCode, BeginsRow}
use Rattle.board_core.proofs.LoadOwnCode.{own_code_allowed, begin_allowed}
use Rattle.board_core.specs.declared.pool.PoolAccount.{PoolAccount}
use Rattle.atomic_table.specs.Seated.{TableId}
use Rattle.board.specs.declared.seats.Tail.{Tail}
use Rattle.board_core.specs.declared.tree.Reached.{Reached}
use Rattle.board.specs.Tails.{AreTails}
use Rattle.board.specs.Seated.{IsStock, Place, Seated, IsOf}
use Rattle.board.specs.Claimed.{HasLoadedInstead, HasClaimed}
use Rattle.board.proofs.Tied.{seated}
use Rattle.board.proofs.Stocks.{HasSeat}

pub page_fits : (words l s p log rest at page place : ℕ) → words ≡ 3 + l + s + p + 16 * p + log + rest → at ≡ 3 + l + s + p + (16 * (page - 1) + place) → 0 < page → page ≤ p → place < 16 → at < words
page_fits words l s p log rest at page place e is above within small = omega arith

at_word_of : (k : Shape) (page other place at at_word : ℕ) → other ≡ page → at ≡ place → at_word ≡ page_word k page place → at_word ≡ page_word k other at
at_word_of k page other place at at_word e f is = is ∙ (λ i. page_word k (sym e i) (sym f i))

pub own_asked : (k : Shape) (slots id p q page place n at_word : ℕ) (m : Mine) → p ≡ page → q ≡ place → at_word ≡ page_word k page place → MayStoreOwn k m.0.me page place → Allows (Holds k) slots id m at_word (λ _. n) (λ _. StoresOwn p q (step slots at_word n 0 none) m 0)
own_asked k slots id p q page place n at_word m e f is may = subst (λ (x : ℕ × ℕ). Allows (Holds k) slots id m at_word (λ _. n) (λ _. StoresOwn x.0 x.1 (step slots at_word n 0 none) m 0)) (λ i. (sym e i, sym f i)) (own_allowed k slots id page place n at_word m is may)

pub header_asked : (k : Shape) (slots id q number page at_word : ℕ) (m : Mine) → q ≡ number → at_word ≡ page_word k page 0 → (visited m.0.me.tree.reached number).page ≡ page → IsVisit k m.0.me number → Allows (Holds k) slots id m at_word (λ n. n) (LoadsHeader q (step slots at_word 0 0 none) m)
header_asked k slots id q number page at_word m e is same visit = subst (λ (x : ℕ). Allows (Holds k) slots id m at_word (λ n. n) (LoadsHeader x (step slots at_word 0 0 none) m)) (sym e)
    (header_allowed k slots id number at_word m (is ∙ ap (λ z. page_word k z 0) (sym same)) visit)

pub slot_asked : (k : Shape) (slots id q number page place at_word : ℕ) (m : Mine) → q ≡ number → at_word ≡ page_word k page place → (visited m.0.me.tree.reached number).page ≡ page → slot_at (visited m.0.me.tree.reached number).leaf (length (visited m.0.me.tree.reached number).slots) ≡ place → m.0.shape ≡ k → MayLoadSlot k m.0.me number
    → Allows (Holds k) slots id m at_word (λ n. n) (OnBoard (LoadsSlot q) (step slots at_word 0 0 none) m)
slot_asked k slots id q number page place at_word m e is same slot shape may = subst (λ (x : ℕ). Allows (Holds k) slots id m at_word (λ n. n) (OnBoard (LoadsSlot x) (step slots at_word 0 0 none) m)) (sym e)
    (on_board k slots id at_word m (λ n. n) (step slots at_word 0 0 none) (LoadsSlot number) shape (slot_allowed k slots id number at_word 0 m (at_word_of k page _ place _ at_word same slot is) may))

pub link_asked : (k : Shape) (slots id q r t number index code page at_word : ℕ) (m : Mine) → (q ≡ number) × (r ≡ index) × (t ≡ code) → at_word ≡ page_word k page (3 + 2 * index) → (visited m.0.me.tree.reached number).page ≡ page → index < 7 → m.0.shape ≡ k → MayLoadLink k m.0.me number index code
    → Allows (Holds k) slots id m at_word (λ n. n) (OnBoard (LoadsLink q r t) (step slots at_word 0 0 none) m)
link_asked k slots id q r t number index code page at_word m e is same small shape may = subst (λ (x : ℕ × ℕ × ℕ). Allows (Holds k) slots id m at_word (λ n. n) (OnBoard (LoadsLink x.0 x.1 x.2) (step slots at_word 0 0 none) m)) (λ i. (sym e.0 i, sym e.1 i, sym e.2 i))
    (on_board k slots id at_word m (λ n. n) (step slots at_word 0 0 none) (LoadsLink number index code) shape (link_allowed k slots id number index code at_word 0 m (is ∙ ap (λ z. page_word k z (3 + 2 * index)) (sym same)) small shape may))

pub more_asked : (k : Shape) (slots id q number page at_word : ℕ) (m : Mine) → q ≡ number → at_word ≡ page_word k page 1 → (visited m.0.me.tree.reached number).page ≡ page → m.0.shape ≡ k → MayLoadMore k m.0.me number → Allows (Holds k) slots id m at_word (λ n. n) (OnBoard (LoadsMore q) (step slots at_word 0 0 none) m)
more_asked k slots id q number page at_word m e is same shape may = subst (λ (x : ℕ). Allows (Holds k) slots id m at_word (λ n. n) (OnBoard (LoadsMore x) (step slots at_word 0 0 none) m)) (sym e)
    (on_board k slots id at_word m (λ n. n) (step slots at_word 0 0 none) (LoadsMore number) shape (more_allowed k slots id number at_word 0 m (is ∙ ap (λ z. page_word k z 1) (sym same)) shape may))

pub slot_inside : (b : Bool) (n place : ℕ) → slot_at b n ≡ place → n < page_room b → place < 16
slot_inside b n place e room = let small = slot_small b n room in omega arith

-- ---- the caller's fields

-- the same pages are the caller's own
pub stock_same : (k : Shape) (own other : List Own) (stock : List ℕ) → ((q : ℕ) → owns q other ≡ owns q own) → IsStock k own stock → IsStock k other stock
stock_same k own other stock same s = record { pages = λ j p there. let old = s.pages j p there in let more : 0 < owns p own = old.1 in let e = same p in (old.0, omega arith); apart = s.apart }

-- pages that are kept stay the caller's own
pub stock_kept : (k : Shape) (own other : List Own) (stock : List ℕ) → ((q : ℕ) → IsAmong stock q → owns q own ≤ owns q other) → IsStock k own stock → IsStock k other stock
stock_kept k own other stock more s = record { pages = λ j p there. let old = s.pages j p there in let above : 0 < owns p own = old.1 in let e = more p (j, there) in (old.0, omega arith); apart = s.apart }

-- an own page that is not kept is let go
pub let_go_kept : (own : List Own) (n : ℕ) (stock : List ℕ) → ¬ (IsAmong stock n) → (q : ℕ) → IsAmong stock q → owns q own ≤ owns q (let_go n own)
let_go_kept own n stock free q among =
    let same : owns q (let_go n own) ≡ owns q own = without_else (λ (o : Own). o.page) (λ _. 1) n q (λ e. free (subst (IsAmong stock) (sym e) among)) own in omega arith

more_same : (a : Account) (j n : ℕ) → KeepsCaller a (after_more a j n) × ((after_more a j n).pool ≡ a.pool)
more_same a j zero = (record { who = refl; log = refl; room = refl; lasting = refl }, refl)
more_same a j (suc n) = (record { who = refl; log = refl; room = refl; lasting = refl }, refl)

pub inner_kept : (a : Account) (j n c : ℕ) (stock : List ℕ) → ¬ (IsAmong stock n) → (q : ℕ) → IsAmong stock q → owns q a.pool.own ≤ owns q (after_next a j n c).pool.own
inner_kept a j n c stock free q among =
    let let_go = let_go_kept a.pool.own n stock free q among in
    let same : owns q (after_next a j n c).pool.own ≡ owns q (after_inner a n).pool.own = ap (λ (x : PoolAccount). owns q x.own) (more_same (after_inner a n) j n).1 in
    let to : owns q a.pool.own ≤ owns q (after_inner a n).pool.own = let_go in omega arith

pub own_seat : (seen used : ℕ) (loader : Bool) (number : ℕ) (stock : List ℕ) (tails : List Tail) (next p i x : ℕ) (m n : Mine) → n ≡ became m (after_own m.0.me p i x) → HasSeat seen used loader number stock tails next m → HasSeat seen used loader number stock tails next n
own_seat seen used loader number stock tails next p i x m n t h =
    let (a, b, c, d, e, f, kept, page, leaves) = h.facts in
    subst (HasSeat seen used loader number stock tails next) (sym t) record { facts = (a, b, c, d, e, f, stock_same m.0.shape m.0.me.pool.own (put_own p i x m.0.me.pool.own) stock (λ q. owns_put p i x q m.0.me.pool.own) kept, page, leaves) }

-- the log, the region and the stock are as they were
pub seat_kept : (seen used : ℕ) (loader : Bool) (number : ℕ) (stock : List ℕ) (tails : List Tail) (next : ℕ) (m n : Mine) (b : Account) → n ≡ became m b → KeepsCaller m.0.me b → ((p : ℕ) → IsAmong stock p → owns p m.0.me.pool.own ≤ owns p b.pool.own) → HasSeat seen used loader number stock tails next m → HasSeat seen used loader number stock tails next n
seat_kept seen used loader number stock tails next m n after t keeps stocked h =
    let (a, b, c, d, e, f, kept, inside, leaves) = h.facts in
    subst (HasSeat seen used loader number stock tails next) (sym t) record {
      facts = (
        a ∙ ap (λ (l : LogAccount). l.seen) (sym keeps.log),
        keeps.who ∙ b,
        c,
        d,
        e ∙ ap (λ (l : RoomAccount). length l.used) (sym keeps.room),
        subst (WhoFits m.0.shape) (sym keeps.who) f,
        stock_kept m.0.shape m.0.me.pool.own after.pool.own stock stocked kept,
        inside,
        subst (λ (xs : List Reached). AreTails m.0.shape xs tails) (sym keeps.lasting) leaves,
      );
    }

-- a load of a page word keeps all that the seat has
slot_same : (a : Account) (j n : ℕ) → KeepsCaller a (after_slot a j n)
slot_same a j n = record { who = refl; log = refl; room = refl; lasting = refl }

pub link_same : (a : Account) (j i c n : ℕ) (leaf : Bool) → KeepsCaller a (after_link a j i c n leaf) × ((after_link a j i c n leaf).pool ≡ a.pool)
link_same a j i c zero leaf = (record { who = refl; log = refl; room = refl; lasting = refl }, refl)
link_same a j i c (suc n) leaf = (record { who = refl; log = refl; room = refl; lasting = refl }, refl)

pub still_owned : (stock : List ℕ) (a b : Account) → b.pool ≡ a.pool → (p : ℕ) → IsAmong stock p → owns p a.pool.own ≤ owns p b.pool.own
still_owned stock a b same p among = let e : owns p b.pool.own ≡ owns p a.pool.own = ap (λ (x : PoolAccount). owns p x.own) same in omega arith

lost_seat : (claim : Claim) (seen used : ℕ) (loader : Bool) (number : ℕ) (stock : List ℕ) (tails : List Tail) (next found : ℕ) (s : Step (Unit {0})) (m n : Mine) → LoadsInstead claim s m found n → HasSeat seen used loader number stock tails next m → HasSeat seen used loader number stock tails next n
lost_seat (LeafBelow j i c x row) seen used loader number stock tails next found s m n t h = let same = link_same m.0.me j i c found t.leaf in seat_kept seen used loader number stock tails next m n _ t.after same.0 (still_owned stock m.0.me (after_link m.0.me j i c found t.leaf) same.1) h
lost_seat (EntryOf j row) seen used loader number stock tails next found s m n t h = seat_kept seen used loader number stock tails next m n (after_slot m.0.me j found) t (slot_same m.0.me j found) (still_owned stock m.0.me (after_slot m.0.me j found) refl) h
lost_seat (CodeOf j c) seen used loader number stock tails next found s m n t h = seat_kept seen used loader number stock tails next m n (after_slot m.0.me j found) t (slot_same m.0.me j found) (still_owned stock m.0.me (after_slot m.0.me j found) refl) h
lost_seat (LeafBehind j x row) seen used loader number stock tails next found s m n t h = let same = more_same m.0.me j found in seat_kept seen used loader number stock tails next m n (after_more m.0.me j found) t.after same.0 (still_owned stock m.0.me (after_more m.0.me j found) same.1) h
lost_seat (InnerBehind j x c) seen used loader number stock tails next found s m n t h = let same = more_same m.0.me j found in seat_kept seen used loader number stock tails next m n (after_more m.0.me j found) t.after same.0 (still_owned stock m.0.me (after_more m.0.me j found) same.1) h

-- an exchange was won or not
pub claim_seat : (claim : Claim) (seen used : ℕ) (loader : Bool) (number : ℕ) (stock : List ℕ) (tails : List Tail) (next found : ℕ) (s : Step (Unit {0})) (m n : Mine) → ClaimsWord claim s m found n → ((p : ℕ) → IsAmong stock p → owns p m.0.me.pool.own ≤ owns p (after_claim m.0.me claim).pool.own)
    → HasSeat seen used loader number stock tails next m → HasSeat seen used loader number stock tails next n
claim_seat claim seen used loader number stock tails next found s m n t stocked h = dite (ℕ_discrete found 0)
    (λ won. seat_kept seen used loader number stock tails next m n (after_claim m.0.me claim) (t.won won) (claim_keeps m.0.me claim) stocked h)
    (λ lost. lost_seat claim seen used loader number stock tails next found s m n (t.lost lost) h)

-- what the caller then knows
claim_lost : (claim : Claim) (t : TableId) (stock : List ℕ) (next found : ℕ) (s : Step (Unit {0})) (m n : Mine) → found ≢ 0 → LoadsInstead claim s m found n → HasLoadedInstead m.0.shape claim (seated t m.0.shape m.0.me stock next) (seated t n.0.shape n.0.me stock next) found
claim_lost (LeafBelow j i c x row) t stock next found s m n some l = record { leaf = l.leaf; after = ap (λ (z : Mine). seated t z.0.shape z.0.me stock next) l.after; page = l.page some }
claim_lost (EntryOf j row) t stock next found s m n some l = ap (λ (z : Mine). seated t z.0.shape z.0.me stock next) l
claim_lost (CodeOf j c) t stock next found s m n some l = ap (λ (z : Mine). seated t z.0.shape z.0.me stock next) l
claim_lost (LeafBehind j x row) t stock next found s m n some l = record { after = ap (λ (z : Mine). seated t z.0.shape z.0.me stock next) l.after; page = l.page some }
claim_lost (InnerBehind j x c) t stock next found s m n some l = record { after = ap (λ (z : Mine). seated t z.0.shape z.0.me stock next) l.after; page = l.page some }

has_claimed : (claim : Claim) (t : TableId) (stock : List ℕ) (next found : ℕ) (s : Step (Unit {0})) (m n : Mine) → ClaimsWord claim s m found n → HasClaimed m.0.shape claim (seated t m.0.shape m.0.me stock next) (seated t n.0.shape n.0.me stock next) found
has_claimed claim t stock next found s m n c = record {
  won = λ won. ap (λ (z : Mine). seated t z.0.shape z.0.me stock next) (c.won won);
  lost = λ lost. claim_lost claim t stock next found s m n lost (c.lost lost);
}

-- as the call sees it
pub claimed_seen : (claim : Claim) (b : Place) (c : Seated) (t u : TableId) (stock : List ℕ) (next found : ℕ) (s : Step (Unit {0})) (m n : Mine) → seated t m.0.shape m.0.me stock next ≡ c → IsOf b c → u ≡ t → ClaimsWord claim s m found n → HasClaimed b.shape claim c (seated u n.0.shape n.0.me stock next) found
claimed_seen claim b c t u stock next found s m n is of same play = subst (λ (x : Shape × Seated × TableId). HasClaimed x.0 claim x.1 (seated x.2 n.0.shape n.0.me stock next) found)
    (λ i. ((ap (λ (x : Seated). x.shape) is ∙ of.shape) i, is i, sym same i)) (has_claimed claim t stock next found s m n play)

-- ---- codes of own rows

pub own_code_asked : (k : Shape) (slots id place head code named : ℕ) (row q : Row) (m : Mine) → row ≡ q → named ≡ code → place ≡ q.block + code_word_at head (q.atom - 1) code → MayLoadOwn k m.0.me q head code → m.0.shape ≡ k
    → Allows (Holds k) slots id m place (λ n. n) (LoadsOwnCode row named (step slots place 0 0 none) m)
own_code_asked k slots id place head code named row q m same also is may shape = subst (λ (x : Row × ℕ). Allows (Holds k) slots id m place (λ n. n) (LoadsOwnCode x.0 x.1 (step slots place 0 0 none) m)) (λ i. (sym same i, sym also i))
    (own_code_allowed k slots id place head code q m is may shape)

pub begin_asked : (k : Shape) (slots id place head code named : ℕ) (row q : Row) (m : Mine) → row ≡ q → named ≡ code → place ≡ q.block + code_word_at head (q.atom - 1) code → MayLoadOwn k m.0.me q head code → m.0.shape ≡ k
    → Allows (Holds k) slots id m place (λ n. n) (BeginsRow row named (step slots place 0 0 none) m)
begin_asked k slots id place head code named row q m same also is may shape = subst (λ (x : Row × ℕ). Allows (Holds k) slots id m place (λ n. n) (BeginsRow x.0 x.1 (step slots place 0 0 none) m)) (λ i. (sym same i, sym also i))
    (begin_allowed k slots id place head code q m is may shape)
