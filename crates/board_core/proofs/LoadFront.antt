-- The front is loaded.
use Rattle.std.proofs.Common.{◌≡◌, ◌≢◌, ℕ, ◌≤◌, List, set, sym, refl, ◌∙◌, subst, arith}
use mathlib.Core.Option.{some, none}
use lib.ListN.{get_elem?}
use Rattle.atomic_table.specs.Table.{step, keeps, Allows}
use Rattle.htss_defs.specs.declared.shape.Shape.{Shape}
use Rattle.htss_defs.specs.declared.history.Event.{Event}
use Rattle.board_core.specs.declared.account.View.{View}
use Rattle.board_core.specs.declared.account.Who.TheVariants.{Gone}
use Rattle.board_core.specs.declared.log.Holding.{Holding}
use Rattle.board_core.specs.declared.log.Holding.TheVariants.{Away, Taken, Fronted}
use Rattle.board_core.specs.Words.{LogWords, Parts, parts_of}
use Rattle.board_core.specs.Histories.{history_of}
use Rattle.board_core.specs.Accounts.{with_me}
use Rattle.board_core.specs.LogRule.{Hand, hand_of, is_held, word_or_0, Holds as HoldsLock, HandFits, LogRule}
use Rattle.board_core.proofs.FullFrame.{full_same}
use Rattle.board_core.proofs.EmptyFrame.{empty_same}
use Rattle.board_core.specs.Holds.{Rule, Holds}
use Rattle.board_core.specs.After.{fronted, after_front}
use Rattle.board_core.specs.Steps.{Mine, LoadsFront}
use Rattle.board_core.proofs.Everyone.{changed, total_same}
use Rattle.board_core.proofs.LogFrame.{hand_at, owner}
use Rattle.board_core.proofs.StoryFrame.{stories_same}
use Rattle.board_core.proofs.LoadFrame.{loads_same, not_later}
use Rattle.board_core.proofs.Stepped.{by_log, still}
use Rattle.board_core.proofs.SweptFrame.{swept_here}
use Rattle.board_core.proofs.ChainFrame.{chains_same}

fronted_holds : (w : LogWords) (x : Hand) (b : Holding) → HoldsLock w x b → HoldsLock w record { who = x.who; log = record { seen = w.front; holding = fronted b; pending = x.log.pending } } (fronted b)
fronted_holds w x Away holds = holds
fronted_holds w x Taken holds = (holds.0, refl)
fronted_holds w x Fronted holds = (holds.0, refl)

fronted_held : (b : Holding) → is_held (fronted b) ≡ is_held b
fronted_held Away = refl
fronted_held Taken = refl
fronted_held Fronted = refl

pub front_log : (k : Shape) (w : LogWords) (h : List Event) (vs : List View) (id : ℕ) (v : View) → LogRule k w h vs → get_elem? vs id ≡ some v → LogRule k w h (set vs id (with_me v (after_front v.me w.front)))
front_log k w h vs id v r at = let f = hand_at k w h vs id v r at in record {
  front = r.front;
  counted = r.counted;
  legal = r.legal;
  callers = r.callers;
  blank = r.blank;
  next = r.next ∙ sym (total_same (λ x. word_or_0 x.log.pending.logged) vs id v (after_front v.me w.front) at refl);
  lock = total_same (λ x. is_held x.log.holding) vs id v (after_front v.me w.front) at (fronted_held v.me.log.holding) ∙ r.lock;
  hands = changed (λ x. HandFits k w h (hand_of x)) vs id v (after_front v.me w.front) at
      record { seen = omega arith; holds = fronted_holds w (hand_of v.me) v.me.log.holding f.holds; shows = f.shows; ends = f.ends; logged = f.logged } r.hands;
}

pub load_front : (k : Shape) (p : Parts) (h : List Event) (vs : List View) (id : ℕ) (v : View) → Rule k p h vs → get_elem? vs id ≡ some v → Rule k p h (set vs id (with_me v (after_front v.me p.log.front)))
load_front k p h vs id v r at = by_log k p p h h vs id v (after_front v.me p.log.front) r at
    record { who = refl; pool_words = refl; page_words = refl; pool = refl; tree = refl; counts = refl; epochs = refl; states = refl; lost = refl }
    record { words = refl; front = refl; slots = refl; store = refl }
    record { heads = refl; facts = refl; codes = refl; marks = refl }
    (front_log k p.log h vs id v r.log at)
    (stories_same k h vs id v (after_front v.me p.log.front) r.stories at refl refl)
    (full_same k vs id v (after_front v.me p.log.front) r.full at refl refl)
    (empty_same k p.pool.states vs id v (after_front v.me p.log.front) r.empty at refl)
    (chains_same k p.pages p.pool.states vs id v (after_front v.me p.log.front) r.chains at refl refl)
    (swept_here k p h vs id v (after_front v.me p.log.front) r at refl)
    (loads_same k p.log p.log vs id v (after_front v.me p.log.front) r.loads at (not_later p.log p.log refl refl) refl)

pub front_allowed : (k : Shape) (slots id : ℕ) (m : Mine) → m.0.me.who ≢ Gone → Allows (Holds k) slots id m 0 (λ n. n) (LoadsFront (step slots 0 0 0 none) m)
front_allowed k slots id m here s h _ at _ =
    let p : Parts = parts_of k s.words in
    let f = hand_at k p.log (history_of k p) s.views id m.0 h.rule.log at in (
      with_me m.0 (after_front m.0.me p.log.front),
      keeps,
      tt,
      still k s 0 id m.1 m.0 (after_front m.0.me p.log.front) h (load_front k p (history_of k p) s.views id m.0 h.rule at),
      record {
        after = refl;
        later = f.seen;
        in_log = subst (λ (x : Shape). p.log.front ≤ x.log) (sym (h.rule.seats.shapes id m.0 at here)) h.rule.log.front;
        same = λ (e : m.0.me.log.holding ≡ Fronted). sym (owner p.log (hand_of m.0.me) m.0.me.log.holding e f.holds).1;
      },
    )
