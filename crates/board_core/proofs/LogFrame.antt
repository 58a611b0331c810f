-- The log: what a step leaves of it, and that one account at most has the lock.
use Rattle.std.proofs.Common.{◌≡◌, ℕ, ◌+◌, ◌<◌, ◌≤◌, ◌==◌, Bool, true, false, cond, List, set, sym, ap, ◌∙◌, subst, arith, eq-eqb, ne_eqb}
use Rattle.std.specs.Prelude.{Some, None}
use mathlib.Core.Option.{some}
use lib.ListN.{get_elem?}
use Rattle.htss_defs.specs.declared.shape.Shape.{Shape}
use Rattle.htss_defs.specs.declared.history.Event.{Event}
use Rattle.board_core.specs.declared.account.Account.{Account}
use Rattle.board_core.specs.declared.account.View.{View}
use Rattle.board_core.specs.declared.account.Who.TheVariants.{Loader}
use Rattle.board_core.specs.Accounts.{nothing, with_me, total, IsOther}
use Rattle.board_core.specs.declared.log.Holding.{Holding}
use Rattle.board_core.specs.declared.log.Holding.TheVariants.{Away, Taken, Fronted}
use Rattle.board_core.specs.declared.log.Ending.{Ending}
use Rattle.board_core.specs.declared.log.Pending.{Pending}
use Rattle.board_core.specs.Words.{LogWords}
use Rattle.board_core.specs.LogRule.{Hand, hand_of, is_held, is_taken, word_or_0, Holds, HandFits, LogRule}
use Rattle.board_core.proofs.Everyone.{mine, changed, total_same}

-- a step that changes no hand
pub log_same : (k : Shape) (w : LogWords) (h : List Event) (vs : List View) (id : ℕ) (v : View) (a : Account) → LogRule k w h vs → get_elem? vs id ≡ some v → hand_of a ≡ hand_of v.me → LogRule k w h (set vs id (with_me v a))
log_same k w h vs id v a r at same = record {
  front = r.front;
  counted = r.counted;
  legal = r.legal;
  callers = r.callers;
  blank = r.blank;
  next = r.next ∙ sym (total_same (λ x. word_or_0 x.log.pending.logged) vs id v a at (ap (λ (x : Hand). word_or_0 x.log.pending.logged) same));
  lock = total_same (λ x. is_held x.log.holding) vs id v a at (ap (λ (x : Hand). is_held x.log.holding) same) ∙ r.lock;
  hands = changed (λ x. HandFits k w h (hand_of x)) vs id v a at (subst (HandFits k w h) (sym same) (mine (λ x. HandFits k w h (hand_of x)) vs id v at r.hands)) r.hands;
}

-- ---- what an account says of itself

pub hand_at : (k : Shape) (w : LogWords) (h : List Event) (vs : List View) (id : ℕ) (v : View) → LogRule k w h vs → get_elem? vs id ≡ some v → HandFits k w h (hand_of v.me)
hand_at k w h vs id v r at = mine (λ x. HandFits k w h (hand_of x)) vs id v at r.hands

pub none_some : {A : Type 0} (x : A) → None ≡ Some x → ⊥
none_some x e = absurd cc

pub same_some : {A : Type 0} (x y : A) → Some x ≡ Some y → x ≡ y
same_some x y e = cc

pub nothing_shows : (p : Pending) (x : ℕ) → p ≡ nothing → p.shows ≡ Some x → ⊥
nothing_shows p x quiet e = none_some x (sym (ap (λ (q : Pending). q.shows) quiet) ∙ e)

pub nothing_ends : (p : Pending) (x : Ending) → p ≡ nothing → p.ends ≡ Some x → ⊥
nothing_ends p x quiet e = none_some x (sym (ap (λ (q : Pending). q.ends) quiet) ∙ e)

pub nothing_logged : (p : Pending) (x : ℕ) → p ≡ nothing → p.logged ≡ Some x → ⊥
nothing_logged p x quiet e = none_some x (sym (ap (λ (q : Pending). q.logged) quiet) ∙ e)

-- an account with nothing pending
pub quiet_fits : (k : Shape) (w : LogWords) (h : List Event) (x : Hand) → x.log.seen ≤ w.front → Holds w x x.log.holding → x.log.pending ≡ nothing → HandFits k w h x
quiet_fits k w h x seen holds quiet = record {
  seen = seen;
  holds = holds;
  shows = λ block e. absurd (nothing_shows x.log.pending block quiet e);
  ends = λ e is. absurd (nothing_ends x.log.pending e quiet is);
  logged = λ word e. absurd (nothing_logged x.log.pending word quiet e);
}

-- without the lock nothing is pending
pub free_quiet : (w : LogWords) (x : Hand) (b : Holding) → is_held b ≡ 0 → Holds w x b → x.log.pending ≡ nothing
free_quiet w x Away free holds = holds
free_quiet w x Taken free holds = holds.1
free_quiet w x Fronted free holds = absurd (omega arith)

pub free_holds : (w u : LogWords) (x : Hand) (b : Holding) → is_held b ≡ 0 → Holds w x b → Holds u x b
free_holds w u x Away free holds = holds
free_holds w u x Taken free holds = absurd (omega arith)
free_holds w u x Fronted free holds = absurd (omega arith)

-- an account without the lock fits whatever the words become, but for the front, which doesn't fall
pub free_fits : (k : Shape) (w u : LogWords) (h g : List Event) (x : Hand) → is_held x.log.holding ≡ 0 → w.front ≤ u.front → HandFits k w h x → HandFits k u g x
free_fits k w u h g x free later f = quiet_fits k u g x (let seen = f.seen in omega arith) (free_holds w u x x.log.holding free f.holds) (free_quiet w x x.log.holding free f.holds)

-- the holder's number is the lock's
pub owner : (w : LogWords) (x : Hand) (b : Holding) → b ≡ Fronted → Holds w x b → (x.who ≡ Loader w.lock) × (x.log.seen ≡ w.front)
owner w x b e holds = subst (Holds w x) e holds

-- ---- one account at most has the lock

pub taken_most : (lock : ℕ) → is_taken lock ≤ 1
taken_most lock = most (lock == 0)
  where
    most : (b : Bool) → cond b 0 1 ≤ 1
    most true = omega arith
    most false = omega arith

pub taken_some : (lock : ℕ) → 0 < lock → is_taken lock ≡ 1
taken_some lock above = ap (λ b. cond b 0 1) (ne_eqb lock 0 (λ e. omega arith))

pub taken_none : (lock : ℕ) → lock ≡ 0 → is_taken lock ≡ 0
taken_none lock free = ap (λ b. cond b 0 1) (eq-eqb lock 0 free)

held_fronted : (b : Holding) → b ≡ Fronted → is_held b ≡ 1
held_fronted b e = ap is_held e

-- where this account has the lock, no other has it
pub others_free : (k : Shape) (w : LogWords) (h : List Event) (vs : List View) (a : Account) → LogRule k w h vs → a.log.holding ≡ Fronted → (x : Account) → IsOther vs a x → is_held x.log.holding ≡ 0
others_free k w h vs a r e x other =
    let sum : is_held x.log.holding + is_held a.log.holding ≤ total (λ y. is_held y.log.holding) vs = other (λ y. is_held y.log.holding) in
    let most = taken_most w.lock in
    let all = r.lock in
    let one = held_fronted a.log.holding e in omega arith
