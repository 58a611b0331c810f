-- The epoch is exchanged for the next: then it has come, whoever made it.
use Rattle.std.proofs.Common.{◌≡◌, ℕ, ◌+◌, ◌≤◌, ◌==◌, List, set, get_or, sym, refl, subst, arith, eq-eqb, ne_eqb}
use mathlib.Core.Option.{some, none}
use mathlib.Core.Logic.{dite}
use native.Mathlib.Decide.{ℕ_discrete}
use prog.Atomic.{either}
use lib.ListN.{get_elem?}
use Rattle.atomic_table.specs.Table.{step, keeps, stepped, Allows}
use Rattle.htss_defs.specs.declared.shape.Shape.{Shape}
use Rattle.htss_defs.specs.declared.history.Event.{Event}
use Rattle.board_core.specs.declared.account.View.{View}
use Rattle.board_core.specs.Words.{Parts, PoolWords, parts_of}
use Rattle.board_core.specs.Histories.{history_of}
use Rattle.board_core.specs.Accounts.{with_me}
use Rattle.board_core.specs.EpochRule.{claim_of, ClaimFits, last_epoch}
use Rattle.board_core.specs.PoolRule.{PoolRule}
use Rattle.board_core.specs.Holds.{Rule, Holds}
use Rattle.board_core.specs.After.{after_advance}
use Rattle.board_core.specs.Steps.{Mine, MayAdvance, Advances}
use Rattle.board_core.proofs.PoolFrame.{pool_claim, claim_here, held_here, scans_here, passed_here, alone_here, claim_later, states_same}
use Rattle.board_core.proofs.Stepped.{still, words_moved}
use Rattle.board_core.proofs.OwnFrame.{own_same}
use Rattle.board_core.proofs.Pooled.{linked_kept, tree_kept, by_pool}
use Rattle.board_core.proofs.Changed.{set_epoch}
use Rattle.board_core.proofs.OldMoved.{pin_here}

-- the epoch is n then
pub advance_pool : (k : Shape) (w : PoolWords) (vs : List View) (id e n : ℕ) (v : View) → PoolRule k w vs → get_elem? vs id ≡ some v → w.epoch ≤ n → e + 1 ≤ n → n ≤ last_epoch
    → PoolRule k (record w { epoch = n }) (set vs id (with_me v (after_advance v.me e)))
advance_pool k w vs id e n v r at more come most =
    let old : ClaimFits n w.announced (claim_of k v.me) = claim_later w.epoch n w.announced w.announced (claim_of k v.me) more (λ _. refl) (claim_here k w vs id v r at) in
    pool_claim k w vs id v r at (record w { epoch = n }) (after_advance v.me e) (λ p. refl) refl refl record { own = refl; linked = refl; begun = omega arith } more most refl (λ x _ _. refl) (λ i _. refl)
    record { stored = old.stored; idle = old.idle; past = old.past; epochs = old.epochs; risen = come; first = old.first; low = old.low }
    (held_here k w vs id v r at)
    (scans_here k w vs id v r at)
    (passed_here k w vs id v r at)
    (alone_here k w vs id v r at)
    (states_same w.states vs id v (after_advance v.me e) r.states at refl refl)

pub advance : (k : Shape) (p : Parts) (h : List Event) (vs : List View) (id e n : ℕ) (v : View) → Rule k p h vs → get_elem? vs id ≡ some v → p.pool.epoch ≤ n → e + 1 ≤ n → n ≤ last_epoch
    → Rule k (record p { pool = record p.pool { epoch = n } }) h (set vs id (with_me v (after_advance v.me e)))
advance k p h vs id e n v r at more come most = by_pool k p (record p.pool { epoch = n }) h vs id v (after_advance v.me e) r at
    record { who = refl; log = refl; room = refl; entries = refl; shown = refl; heads = refl; facts = refl; codes = refl; marks = refl }
    (λ q busy. busy)
    (advance_pool k p.pool vs id e n v r.pool at more come most)
    (own_same p.pages vs id v (after_advance v.me e) r.own at refl)
    record { begun = refl; placed = refl }
    (pin_here p.log.front vs id v r.pins at)
    (linked_kept p.pool.states vs id v (after_advance v.me e) at (λ _. refl) (λ _. refl))
    (tree_kept k p h vs id v (after_advance v.me e) r at refl (λ _. refl) (λ _. refl))

pub advance_allowed : (k : Shape) (slots id e : ℕ) (m : Mine) → MayAdvance m.0.me e → Allows (Holds k) slots id m 2 (λ n. either (n == e) (e + 1) n) (Advances (step slots 2 e (e + 1) none) m)
advance_allowed k slots id e m may s h _ at _ =
    let n : ℕ = get_or s.words 2 0 in
    let p : Parts = parts_of k s.words in
    let below = may.most in
    let most = h.rule.pool.epochs.most in
    let reached : e ≤ p.pool.epoch = ((claim_here k p.pool s.views id m.0 h.rule.pool at).epochs may.loaded.0 e may.loaded.1).1 in (
      with_me m.0 (after_advance m.0.me e),
      keeps,
      tt,
      dite (ℕ_discrete n e)
          (λ same. subst (λ b. Holds k (stepped s 2 (either b (e + 1) n) id m.1 (with_me m.0 (after_advance m.0.me e)) keeps)) (sym (eq-eqb n e same))
          (words_moved k s 2 (e + 1) id m.1 m.0 (after_advance m.0.me e) _ h (set_epoch k s.words (e + 1) h.wide) (advance k p (history_of k p) s.views id e (e + 1) m.0 h.rule at (omega arith) (omega arith) (omega arith))))
          (λ other. subst (λ b. Holds k (stepped s 2 (either b (e + 1) n) id m.1 (with_me m.0 (after_advance m.0.me e)) keeps)) (sym (ne_eqb n e other))
          (still k s 2 id m.1 m.0 (after_advance m.0.me e) h (advance k p (history_of k p) s.views id e p.pool.epoch m.0 h.rule at (omega arith) (omega arith) most))),
      refl,
    )
