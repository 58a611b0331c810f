-- The exchange of the link to a full leaf as the call asks for it, and what it leaves of the caller.
use Rattle.std.proofs.Common.{◌≡◌, ◌≢◌, ℕ, suc, false, ◌+◌, ◌*◌, ◌<◌, ◌≤◌, ◌==◌, Bool, List, [], ◌∷◌, sym, refl, ap, ◌∙◌, subst, arith}
use mathlib.Core.Option.{none}
use mathlib.Core.Logic.{dite}
use native.Mathlib.Decide.{ℕ_discrete}
use prog.Atomic.{either}
use Rattle.atomic_table.specs.Table.{Step, step, Allows}
use Rattle.atomic_table.specs.Seated.{TableId}
use Rattle.htss_defs.specs.declared.shape.Shape.{Shape}
use Rattle.htss_defs.specs.declared.shape.Field.TheVariants.{Chain}
use Rattle.htss_defs.specs.Shapes.{IsShape}
use Rattle.board_core.specs.declared.account.Account.{Account}
use Rattle.board_core.specs.declared.pool.Own.{Own}
use Rattle.board_core.specs.declared.pool.PoolAccount.{PoolAccount}
use Rattle.board_core.specs.Each.{Each}
use Rattle.board_core.specs.Sheets.{owns}
use Rattle.board_core.specs.MarkRule.{IsAmong}
use Rattle.board_core.specs.Loaded.{IsPage, page_word}
use Rattle.board_core.specs.Holds.{Holds}
use Rattle.board_core.specs.After.{visited, let_go_all, after_link, after_split}
use Rattle.board_core.specs.Steps.{Mine, MayExchangeLeaf, Exchange, after_exchange, ExchangesLeaf}
use Rattle.board_core.proofs.ClaimWord.{KeepsCaller}
use Rattle.board_core.proofs.ExchangeLeaf.{exchange_allowed}
use Rattle.board.specs.declared.seats.Tail.{Tail}
use Rattle.board.specs.Seated.{Place, Seated, IsOf, with_account}
use Rattle.board.proofs.Tied.{seated}
use Rattle.board.proofs.Stocks.{HasSeat}
use Rattle.board.proofs.TreeWords.{seat_kept, link_same, still_owned, let_go_kept}

pub chains_two : (k : Shape) → IsShape k → 2 ≤ k.chain
chains_two k h = (h Chain).0

pub exchange_asked : (k : Shape) (slots id number index code l leaf first page at_word : ℕ) (numbers : List ℕ) (e : Exchange) (m : Mine)
    → e ≡ record { inner = number; index = index; code = code; leaf = leaf; numbers = numbers; first = first } → at_word ≡ page_word k page (3 + 2 * index)
    → (visited m.0.me.tree.reached number).page ≡ page → (visited m.0.me.tree.reached l).page ≡ leaf → index < 7 → 2 ≤ k.chain → m.0.shape ≡ k → MayExchangeLeaf k m.0.me number index code l numbers first
    → Allows (Holds k) slots id m at_word (λ f. either (f == leaf) first f) (ExchangesLeaf e (step slots at_word leaf first none) m)
exchange_asked k slots id number index code l leaf first page at_word numbers e m same is here there small chain shape may =
    subst (λ (x : Exchange). Allows (Holds k) slots id m at_word (λ f. either (f == leaf) first f) (ExchangesLeaf x (step slots at_word leaf first none) m)) (sym same)
    (subst (λ (x : ℕ). Allows (Holds k) slots id m at_word (λ f. either (f == x) first f)
    (ExchangesLeaf (record { inner = number; index = index; code = code; leaf = x; numbers = numbers; first = first }) (step slots at_word x first none) m)) there
    (exchange_allowed k slots id number index code l at_word numbers first m (is ∙ ap (λ z. page_word k z (3 + 2 * index)) (sym here)) small chain shape may))

-- ---- the caller's fields

-- own pages that are not kept are let go
pub let_go_all_kept : (own : List Own) (numbers stock : List ℕ) → Each (λ n. ¬ (IsAmong stock n)) numbers → (q : ℕ) → IsAmong stock q → owns q own ≤ owns q (let_go_all numbers own)
let_go_all_kept own [] stock free q among = omega arith
let_go_all_kept own (n ∷ numbers) stock free q among =
    let rest = let_go_all_kept own numbers stock (λ j. free (suc j)) q among in
    let one = let_go_kept (let_go_all numbers own) n stock (free 0 n refl) q among in omega arith

exchange_keeps : (a : Account) (e : Exchange) → KeepsCaller a (after_exchange a e)
exchange_keeps a e = let same = (link_same (after_split a e.numbers e.leaf) e.inner e.index e.code e.first false).0 in record { who = same.who; log = same.log; room = same.room; lasting = same.lasting }

exchange_stock : (a : Account) (e : Exchange) (stock : List ℕ) → Each (λ n. ¬ (IsAmong stock n)) e.numbers → (q : ℕ) → IsAmong stock q → owns q a.pool.own ≤ owns q (after_exchange a e).pool.own
exchange_stock a e stock free q among =
    let kept : owns q a.pool.own ≤ owns q (let_go_all e.numbers a.pool.own) = let_go_all_kept a.pool.own e.numbers stock free q among in
    let same : owns q (after_exchange a e).pool.own ≡ owns q (let_go_all e.numbers a.pool.own) = ap (λ (x : PoolAccount). owns q x.own) (link_same (after_split a e.numbers e.leaf) e.inner e.index e.code e.first false).1 in omega arith

pub exchange_seat : (e x : Exchange) (seen used : ℕ) (loader : Bool) (number : ℕ) (stock : List ℕ) (tails : List Tail) (next found : ℕ) (s : Step (Unit {0})) (m n : Mine) → e ≡ x → ExchangesLeaf e s m found n → Each (λ n. ¬ (IsAmong stock n)) x.numbers
    → HasSeat seen used loader number stock tails next m → HasSeat seen used loader number stock tails next n
exchange_seat e x seen used loader number stock tails next found s m n is t free h = dite (ℕ_discrete found e.leaf)
    (λ won. seat_kept seen used loader number stock tails next m n (after_exchange m.0.me e) (t.won won) (exchange_keeps m.0.me e) (exchange_stock m.0.me e stock (subst (λ (z : Exchange). Each (λ n. ¬ (IsAmong stock n)) z.numbers) (sym is) free)) h)
    (λ lost. let same = link_same m.0.me e.inner e.index e.code found false in
    seat_kept seen used loader number stock tails next m n (after_link m.0.me e.inner e.index e.code found false) (t.lost lost) same.0 (still_owned stock m.0.me (after_link m.0.me e.inner e.index e.code found false) same.1) h)

-- ---- as the call sees it

pub record HasExchanged (k : Shape) (e : Exchange) (c d : Seated) (found : ℕ) : Type 0 where
  pub won : found ≡ e.leaf → d ≡ with_account c (after_exchange c.account e)
  pub lost : found ≢ e.leaf → d ≡ with_account c (after_link c.account e.inner e.index e.code found false)
  pub page : IsPage k found

has_exchanged : (e : Exchange) (t : TableId) (stock : List ℕ) (next found : ℕ) (s : Step (Unit {0})) (m n : Mine) → ExchangesLeaf e s m found n → HasExchanged m.0.shape e (seated t m.0.shape m.0.me stock next) (seated t n.0.shape n.0.me stock next) found
has_exchanged e t stock next found s m n c = record {
  won = λ won. ap (λ (z : Mine). seated t z.0.shape z.0.me stock next) (c.won won);
  lost = λ lost. ap (λ (z : Mine). seated t z.0.shape z.0.me stock next) (c.lost lost);
  page = c.page;
}

pub exchange_seen : (e x : Exchange) (b : Place) (c : Seated) (t u : TableId) (stock : List ℕ) (next found : ℕ) (s : Step (Unit {0})) (m n : Mine) → e ≡ x → seated t m.0.shape m.0.me stock next ≡ c → IsOf b c → u ≡ t → ExchangesLeaf e s m found n
    → HasExchanged b.shape x c (seated u n.0.shape n.0.me stock next) found
exchange_seen e x b c t u stock next found s m n same_e is of same play = subst (λ (z : Exchange × Shape × Seated × TableId). HasExchanged z.1 z.0 z.2 (seated z.3 n.0.shape n.0.me stock next) found)
    (λ i. (same_e i, (ap (λ (z : Seated). z.shape) is ∙ of.shape) i, is i, sym same i)) (has_exchanged e t stock next found s m n play)
