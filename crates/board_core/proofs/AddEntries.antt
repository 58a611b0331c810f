-- What a call answers is added, at a load of the lock whose value is not used.
use Rattle.std.proofs.Common.{◌≡◌, ℕ, List, set, refl}
use mathlib.Core.Option.{some, none}
use lib.ListN.{get_elem?}
use Rattle.atomic_table.specs.Table.{step, keeps, Allows}
use Rattle.htss_defs.specs.declared.shape.Shape.{Shape}
use Rattle.board_core.specs.declared.account.View.{View}
use Rattle.board_core.specs.declared.entry.Entry.{Entry}
use Rattle.board_core.specs.Words.{Parts, parts_of}
use Rattle.board_core.specs.Histories.{history_of}
use Rattle.board_core.specs.Accounts.{with_me}
use Rattle.board_core.proofs.FullFrame.{full_more}
use Rattle.board_core.proofs.EmptyFrame.{empty_more, pool_true}
use Rattle.board_core.specs.Holds.{Rule, Holds}
use Rattle.board_core.specs.After.{after_answer}
use Rattle.board_core.specs.Steps.{Mine, AreTrue, Answers}
use Rattle.board_core.proofs.LogFrame.{log_same}
use Rattle.board_core.proofs.LoadFrame.{loads_same, not_later}
use Rattle.board_core.proofs.Stepped.{by_log, still}
use Rattle.board_core.proofs.Answered.{answered_stories}
use Rattle.board_core.proofs.SweptFrame.{swept_more, swept_none}
use Rattle.board_core.proofs.ChainFrame.{chains_more}
use Rattle.board_core.proofs.Stepped.{chains_here}

pub answer : (k : Shape) (p : Parts) (vs : List View) (id : ℕ) (v : View) (es : List Entry) → Rule k p (history_of k p) vs → get_elem? vs id ≡ some v → AreTrue k v.me es
    → Rule k p (history_of k p) (set vs id (with_me v (after_answer v.me es)))
answer k p vs id v es r at true_all = by_log k p p (history_of k p) (history_of k p) vs id v (after_answer v.me es) r at
    record { who = refl; pool_words = refl; page_words = refl; pool = refl; tree = refl; counts = refl; epochs = refl; states = refl; lost = refl }
    record { words = refl; front = refl; slots = refl; store = refl }
    record { heads = refl; facts = refl; codes = refl; marks = refl }
    (log_same k p.log (history_of k p) vs id v (after_answer v.me es) r.log at refl)
    (answered_stories k p vs id v (after_answer v.me es) es r at true_all refl refl)
    (full_more k vs id v (after_answer v.me es) es r.full at true_all.rooms refl refl)
    (empty_more k p.pool.states vs id v (after_answer v.me es) es r.empty at (pool_true k p.pool.states vs id v es r.pool.states at true_all.pages) refl)
    (chains_more k p.pages p.pool.states vs id v (after_answer v.me es) es r.chains at refl (chains_here k p (history_of k p) vs id v es r at true_all.chains) refl)
    (swept_more k p (history_of k p) vs id v (after_answer v.me es) es r at (swept_none k p vs v.me es true_all.chains) refl)
    (loads_same k p.log p.log vs id v (after_answer v.me es) r.loads at (not_later p.log p.log refl refl) refl)

pub answer_allowed : (k : Shape) (slots id : ℕ) (m : Mine) (es : List Entry) → AreTrue k m.0.me es → Allows (Holds k) slots id m 1 (λ n. n) (Answers es (step slots 1 0 0 none) m)
answer_allowed k slots id m es true_all s h _ at _ = (
  with_me m.0 (after_answer m.0.me es),
  keeps,
  tt,
  still k s 1 id m.1 m.0 (after_answer m.0.me es) h (answer k (parts_of k s.words) s.views id m.0 es h.rule at true_all),
  refl,
)
