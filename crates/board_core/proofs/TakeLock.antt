-- The lock is taken.
use Rattle.std.proofs.Common.{◌≡◌, ℕ, ◌+◌, ◌<◌, ◌≤◌, ◌==◌, List, set, get_or, sym, refl, ap, ◌∙◌, subst, arith, eq-eqb, ne_eqb}
use mathlib.Core.Option.{some, none}
use mathlib.Core.Logic.{dite}
use native.Mathlib.Decide.{ℕ_discrete}
use prog.Atomic.{either}
use lib.ListN.{get_elem?}
use Rattle.atomic_table.specs.Table.{step, keeps, stepped, Allows}
use Rattle.atomic_table.proofs.Lists.{set_again}
use Rattle.htss_defs.specs.declared.shape.Shape.{Shape}
use Rattle.htss_defs.specs.declared.history.Event.{Event}
use Rattle.board_core.specs.declared.account.Account.{Account}
use Rattle.board_core.specs.declared.account.View.{View}
use Rattle.board_core.specs.declared.account.Who.{Who}
use Rattle.board_core.specs.declared.account.Who.TheVariants.{Loader}
use Rattle.board_core.specs.declared.log.Holding.{Holding}
use Rattle.board_core.specs.declared.log.Holding.TheVariants.{Away}
use Rattle.board_core.specs.Words.{LogWords, Parts, parts_of}
use Rattle.board_core.specs.Histories.{history_of}
use Rattle.board_core.specs.Accounts.{nothing, with_me, total, IsOther}
use Rattle.board_core.specs.SeatRule.{WhoFits}
use Rattle.board_core.specs.LogRule.{Hand, hand_of, is_held, word_or_0, Holds as HoldsLock, HandFits, LogRule}
use Rattle.board_core.proofs.FullFrame.{full_same}
use Rattle.board_core.proofs.EmptyFrame.{empty_same}
use Rattle.board_core.specs.Holds.{Rule, Holds}
use Rattle.board_core.specs.After.{after_take}
use Rattle.board_core.specs.Steps.{Mine, MayTake, Takes}
use Rattle.board_core.proofs.Everyone.{mine, moved, total_changed, total_same}
use Rattle.board_core.proofs.LogFrame.{hand_at, quiet_fits, free_fits, taken_some, taken_none}
use Rattle.board_core.proofs.StoryFrame.{stories_same}
use Rattle.board_core.proofs.LoadFrame.{loads_same, not_later}
use Rattle.board_core.proofs.Stepped.{by_log, still, words_moved}
use Rattle.board_core.proofs.Changed.{set_lock}
use Rattle.board_core.proofs.SweptFrame.{swept_here}
use Rattle.board_core.proofs.ChainFrame.{chains_same}

-- where the lock is free nobody has it
all_free : (k : Shape) (w : LogWords) (h : List Event) (vs : List View) (a : Account) → LogRule k w h vs → w.lock ≡ 0 → (x : Account) → IsOther vs a x → is_held x.log.holding ≡ 0
all_free k w h vs a r free x other =
    let sum : is_held x.log.holding + is_held a.log.holding ≤ total (λ y. is_held y.log.holding) vs = other (λ y. is_held y.log.holding) in
    let all = r.lock in
    let none_taken = taken_none w.lock free in omega arith

away : (w : LogWords) (x : Hand) (b : Holding) → b ≡ Away → HoldsLock w x b → x.log.pending ≡ nothing
away w x b e holds = subst (HoldsLock w x) e holds

pub take_log : (k : Shape) (w : LogWords) (h : List Event) (vs : List View) (id c : ℕ) (v : View) → LogRule k w h vs → get_elem? vs id ≡ some v → v.me.who ≡ Loader c → 0 < c → v.me.log.holding ≡ Away → w.lock ≡ 0
    → LogRule k (record w { lock = c }) h (set vs id (with_me v (after_take v.me)))
take_log k w h vs id c v r at who above hold free =
    let f = hand_at k w h vs id v r at in
    let quiet = away w (hand_of v.me) v.me.log.holding hold f.holds in record {
      front = r.front;
      counted = r.counted;
      legal = r.legal;
      callers = r.callers;
      blank = r.blank;
      next = r.next ∙ sym (total_same (λ x. word_or_0 x.log.pending.logged) vs id v (after_take v.me) at refl);
      lock =
          let sum = total_changed (λ x. is_held x.log.holding) vs id v (after_take v.me) at in
          let before : is_held v.me.log.holding ≡ 0 = ap is_held hold in
          let all = r.lock in
          let none_taken = taken_none w.lock free in
          let some_taken = taken_some c above in omega arith;
      hands = moved (λ x. HandFits k w h (hand_of x)) (λ x. HandFits k (record w { lock = c }) h (hand_of x)) vs id v (after_take v.me) at
          (quiet_fits k (record w { lock = c }) h (hand_of (after_take v.me)) f.seen (who, quiet) quiet)
          (λ x other fits. free_fits k w (record w { lock = c }) h h (hand_of x) (all_free k w h vs v.me r free x other) (omega arith) fits) r.hands;
    }

loader_above : (k : Shape) (who : Who) (c : ℕ) → who ≡ Loader c → WhoFits k who → 0 < c
loader_above k who c is f = (subst (WhoFits k) is f).0

pub take : (k : Shape) (p : Parts) (h : List Event) (vs : List View) (id c : ℕ) (v : View) → Rule k p h vs → get_elem? vs id ≡ some v → v.me.who ≡ Loader c → MayTake v.me → p.log.lock ≡ 0
    → Rule k (record p { log = record p.log { lock = c } }) h (set vs id (with_me v (after_take v.me)))
take k p h vs id c v r at who may free = by_log k p (record p { log = record p.log { lock = c } }) h h vs id v (after_take v.me) r at
    record { who = refl; pool_words = refl; page_words = refl; pool = refl; tree = refl; counts = refl; epochs = refl; states = refl; lost = refl }
    record { words = refl; front = refl; slots = refl; store = refl }
    record { heads = refl; facts = refl; codes = refl; marks = refl }
    (take_log k p.log h vs id c v r.log at who (loader_above k v.me.who c who (mine (λ x. WhoFits k x.who) vs id v at r.seats.limits)) may free)
    (stories_same k h vs id v (after_take v.me) r.stories at refl refl)
    (full_same k vs id v (after_take v.me) r.full at refl refl)
    (empty_same k p.pool.states vs id v (after_take v.me) r.empty at refl)
    (chains_same k p.pages p.pool.states vs id v (after_take v.me) r.chains at refl refl)
    (swept_here k p h vs id v (after_take v.me) r at refl)
    (loads_same k p.log (record p.log { lock = c }) vs id v (after_take v.me) r.loads at (not_later p.log (record p.log { lock = c }) refl refl) refl)

pub take_allowed : (k : Shape) (slots id c : ℕ) (m : Mine) → m.0.me.who ≡ Loader c → MayTake m.0.me → Allows (Holds k) slots id m 1 (λ n. either (n == 0) c n) (Takes (step slots 1 0 c none) m)
take_allowed k slots id c m who may s h _ at _ = let n : ℕ = get_or s.words 1 0 in let p : Parts = parts_of k s.words in
    let idle : m.0.me.log.pending ≡ nothing = subst (λ x. HoldsLock p.log (hand_of m.0.me) x) may (hand_at k p.log (history_of k p) s.views id m.0 h.rule.log at).holds in dite (ℕ_discrete n 0)
    (λ free. (
      with_me m.0 (after_take m.0.me),
      keeps,
      tt,
      subst (λ b. Holds k (stepped s 1 (either b c n) id m.1 (with_me m.0 (after_take m.0.me)) keeps)) (sym (eq-eqb n 0 free))
          (words_moved k s 1 c id m.1 m.0 (after_take m.0.me) _ h (set_lock k s.words c h.wide) (take k p (history_of k p) s.views id c m.0 h.rule at who may free)),
      record { won = λ _. refl; lost = λ taken. absurd (taken free); idle = idle },
    ))
    (λ taken. (
      m.0,
      keeps,
      tt,
      subst (λ b. Holds k (stepped s 1 (either b c n) id m.1 m.0 keeps)) (sym (ne_eqb n 0 taken))
          (still k s 1 id m.1 m.0 m.0.me h (subst (λ (l : List View). Rule k p (history_of k p) l) (sym (set_again s.views id m.0 at)) h.rule)),
      record { won = λ free. absurd (taken free); lost = λ _. refl; idle = idle },
    ))
