-- The lock is freed, and what the call answers is added.
use Rattle.std.proofs.Common.{◌≡◌, ℕ, List, set, sym, refl, ap, ◌∙◌, arith}
use mathlib.Core.Option.{some, none}
use lib.ListN.{get_elem?}
use Rattle.atomic_table.specs.Table.{step, keeps, Allows}
use Rattle.htss_defs.specs.declared.shape.Shape.{Shape}
use Rattle.htss_defs.specs.declared.history.Event.{Event}
use Rattle.board_core.specs.declared.account.View.{View}
use Rattle.board_core.specs.declared.entry.Entry.{Entry}
use Rattle.board_core.specs.Words.{LogWords, Parts, parts_of}
use Rattle.board_core.specs.Histories.{history_of}
use Rattle.board_core.specs.Accounts.{with_me}
use Rattle.board_core.specs.LogRule.{hand_of, is_held, word_or_0, HandFits, LogRule}
use Rattle.board_core.proofs.FullFrame.{full_more}
use Rattle.board_core.proofs.EmptyFrame.{empty_more, pool_true}
use Rattle.board_core.specs.Holds.{Rule, Holds}
use Rattle.board_core.specs.After.{after_free}
use Rattle.board_core.specs.Steps.{Mine, MayFree, AreTrue, Frees}
use Rattle.board_core.proofs.Everyone.{moved, total_changed, total_same}
use Rattle.board_core.proofs.LogFrame.{hand_at, quiet_fits, free_fits, owner, taken_most, taken_none, others_free}
use Rattle.board_core.proofs.LoadFrame.{loads_same, not_later}
use Rattle.board_core.proofs.Stepped.{by_log, words_moved}
use Rattle.board_core.proofs.Changed.{set_lock}
use Rattle.board_core.proofs.Answered.{answered_stories}
use Rattle.board_core.proofs.SweptFrame.{swept_more, swept_none}
use Rattle.board_core.proofs.ChainFrame.{chains_more}
use Rattle.board_core.proofs.Stepped.{chains_here}

pub free_log : (k : Shape) (w : LogWords) (h : List Event) (vs : List View) (id : ℕ) (v : View) (es : List Entry) → LogRule k w h vs → get_elem? vs id ≡ some v → MayFree v.me
    → LogRule k (record w { lock = 0 }) h (set vs id (with_me v (after_free v.me es)))
free_log k w h vs id v es r at may =
    let f = hand_at k w h vs id v r at in
    let own = owner w (hand_of v.me) v.me.log.holding may.0 f.holds in record {
      front = r.front;
      counted = r.counted;
      legal = r.legal;
      callers = r.callers;
      blank = r.blank;
      next = r.next ∙ sym (total_same (λ x. word_or_0 x.log.pending.logged) vs id v (after_free v.me es) at refl);
      lock =
          let sum = total_changed (λ x. is_held x.log.holding) vs id v (after_free v.me es) at in
          let before : is_held v.me.log.holding ≡ 1 = ap is_held may.0 in
          let all = r.lock in
          let most = taken_most w.lock in
          let none_taken = taken_none 0 refl in omega arith;
      hands = moved (λ x. HandFits k w h (hand_of x)) (λ x. HandFits k (record w { lock = 0 }) h (hand_of x)) vs id v (after_free v.me es) at
          (quiet_fits k (record w { lock = 0 }) h (hand_of (after_free v.me es)) f.seen may.1 may.1)
          (λ x other fits. free_fits k w (record w { lock = 0 }) h h (hand_of x) (others_free k w h vs v.me r may.0 x other) (omega arith) fits) r.hands;
    }

pub free : (k : Shape) (p : Parts) (vs : List View) (id : ℕ) (v : View) (es : List Entry) → Rule k p (history_of k p) vs → get_elem? vs id ≡ some v → MayFree v.me → AreTrue k v.me es
    → Rule k (record p { log = record p.log { lock = 0 } }) (history_of k p) (set vs id (with_me v (after_free v.me es)))
free k p vs id v es r at may true_all = by_log k p (record p { log = record p.log { lock = 0 } }) (history_of k p) (history_of k p) vs id v (after_free v.me es) r at
    record { who = refl; pool_words = refl; page_words = refl; pool = refl; tree = refl; counts = refl; epochs = refl; states = refl; lost = refl }
    record { words = refl; front = refl; slots = refl; store = refl }
    record { heads = refl; facts = refl; codes = refl; marks = refl }
    (free_log k p.log (history_of k p) vs id v es r.log at may)
    (answered_stories k p vs id v (after_free v.me es) es r at true_all refl refl)
    (full_more k vs id v (after_free v.me es) es r.full at true_all.rooms refl refl)
    (empty_more k p.pool.states vs id v (after_free v.me es) es r.empty at (pool_true k p.pool.states vs id v es r.pool.states at true_all.pages) refl)
    (chains_more k p.pages p.pool.states vs id v (after_free v.me es) es r.chains at refl (chains_here k p (history_of k p) vs id v es r at true_all.chains) refl)
    (swept_more k p (history_of k p) vs id v (after_free v.me es) es r at (swept_none k p vs v.me es true_all.chains) refl)
    (loads_same k p.log (record p.log { lock = 0 }) vs id v (after_free v.me es) r.loads at (not_later p.log (record p.log { lock = 0 }) refl refl) refl)

pub free_allowed : (k : Shape) (slots id : ℕ) (m : Mine) (es : List Entry) → MayFree m.0.me → AreTrue k m.0.me es → Allows (Holds k) slots id m 1 (λ _. 0) (λ _. Frees es (step slots 1 0 0 none) m 0)
free_allowed k slots id m es may true_all s h _ at _ = (
  with_me m.0 (after_free m.0.me es),
  keeps,
  tt,
  words_moved k s 1 0 id m.1 m.0 (after_free m.0.me es) _ h (set_lock k s.words 0 h.wide) (free k (parts_of k s.words) s.views id m.0 es h.rule at may true_all),
  refl,
)
