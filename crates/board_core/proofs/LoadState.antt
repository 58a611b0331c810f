-- The state of a page is loaded.
use Rattle.std.proofs.Common.{◌≡◌, ◌≢◌, ℕ, ◌+◌, ◌-◌, List, set, get_or, sym, refl, ap, ◌∙◌, subst, arith}
use mathlib.Core.Option.{some, none}
use lib.ListN.{get_elem?}
use Rattle.atomic_table.specs.Table.{step, keeps, Allows}
use Rattle.htss_defs.specs.declared.shape.Shape.{Shape}
use Rattle.htss_defs.specs.declared.history.Event.{Event}
use Rattle.board_core.specs.declared.account.Account.{Account}
use Rattle.board_core.specs.declared.account.View.{View}
use Rattle.board_core.specs.declared.loads.Loads.{Loads}
use Rattle.board_core.specs.Words.{Parts, PoolWords, parts_of, states_at}
use Rattle.board_core.specs.Histories.{history_of}
use Rattle.board_core.specs.Accounts.{with_me}
use Rattle.board_core.specs.Each.{Each}
use Rattle.board_core.specs.EpochRule.{IsPast}
use Rattle.board_core.specs.StateRule.{StatesStand}
use Rattle.board_core.specs.PoolRule.{PoolRule}
use Rattle.board_core.specs.Loaded.{IsPage}
use Rattle.board_core.specs.Holds.{Rule, Holds}
use Rattle.board_core.specs.After.{after_state, after_lost}
use Rattle.board_core.specs.Steps.{Mine, LoadsState}
use Rattle.board_core.proofs.Lists.{each_snoc}
use Rattle.board_core.proofs.Everyone.{mine, changed}
use Rattle.board_core.proofs.PoolFrame.{pool_claim, claim_here, held_here, scans_here, passed_here, alone_here}
use Rattle.board_core.proofs.Stepped.{still}
use Rattle.board_core.proofs.OwnFrame.{own_same}
use Rattle.board_core.proofs.Pooled.{linked_kept, tree_kept, by_pool, state_at}
use Rattle.board_core.proofs.OldMoved.{pin_here}

-- an account that has loaded more of states, which all stand
pub loads_pool : (k : Shape) (w : PoolWords) (vs : List View) (id : ℕ) (v : View) (l : Loads) → PoolRule k w vs → get_elem? vs id ≡ some v → l.epochs ≡ v.me.loads.epochs → StatesStand w.states l → PoolRule k w (set vs id (with_me v (record v.me { loads = l })))
loads_pool k w vs id v l r at epochs stand =
    let old = claim_here k w vs id v r at in
    pool_claim k w vs id v r at w (record v.me { loads = l }) (λ p. refl) refl refl record { own = refl; linked = refl; begun = omega arith } (omega arith) r.epochs.most refl (λ x _ _. refl) (λ j _. refl)
    record { stored = old.stored; idle = old.idle; past = old.past; epochs = subst (λ (es : List ℕ). Each (IsPast w.epoch) es) (sym epochs) old.epochs; risen = old.risen; first = old.first; low = old.low }
    (held_here k w vs id v r at)
    (scans_here k w vs id v r at)
    (passed_here k w vs id v r at)
    (alone_here k w vs id v r at)
    (changed (λ x. StatesStand w.states x.loads) vs id v (record v.me { loads = l }) at stand r.states)

-- the page's state is this
pub load_state : (k : Shape) (p : Parts) (h : List Event) (vs : List View) (id q : ℕ) (v : View) → Rule k p h vs → get_elem? vs id ≡ some v → Rule k p h (set vs id (with_me v (after_state v.me q (p.pool.states q))))
load_state k p h vs id q v r at =
    let a : Account = after_state v.me q (p.pool.states q) in
    let own = mine (λ x. StatesStand p.pool.states x.loads) vs id v at r.pool.states in
    by_pool k p p.pool h vs id v a r at
    record { who = refl; log = refl; room = refl; entries = refl; shown = refl; heads = refl; facts = refl; codes = refl; marks = refl }
    (λ q busy. busy)
    (loads_pool k p.pool vs id v a.loads r.pool at refl
    record { seen = each_snoc (λ x. x.word ≢ 0 → p.pool.states x.page ≢ 0) v.me.loads.states (record { page = q; word = p.pool.states q }) (λ busy. busy) own.seen; lost = own.lost })
    (own_same p.pages vs id v (a) r.own at refl)
    record { begun = refl; placed = refl }
    (pin_here p.log.front vs id v r.pins at)
    (linked_kept p.pool.states vs id v (a) at (λ _. refl) (λ _. refl))
    (tree_kept k p h vs id v (a) r at refl (λ _. refl) (λ _. refl))

-- an exchange of the page's state was lost, and the page is not free
pub lose_state : (k : Shape) (p : Parts) (h : List Event) (vs : List View) (id q : ℕ) (v : View) → Rule k p h vs → get_elem? vs id ≡ some v → p.pool.states q ≢ 0 → Rule k p h (set vs id (with_me v (after_lost v.me q (p.pool.states q))))
lose_state k p h vs id q v r at busy_now =
    let a : Account = after_lost v.me q (p.pool.states q) in
    let own = mine (λ x. StatesStand p.pool.states x.loads) vs id v at r.pool.states in
    by_pool k p p.pool h vs id v a r at
    record { who = refl; log = refl; room = refl; entries = refl; shown = refl; heads = refl; facts = refl; codes = refl; marks = refl }
    (λ q busy. busy)
    (loads_pool k p.pool vs id v a.loads r.pool at refl
    record { seen = own.seen; lost = each_snoc (λ x. p.pool.states x.page ≢ 0) v.me.loads.lost (record { page = q; word = p.pool.states q }) busy_now own.lost })
    (own_same p.pages vs id v (a) r.own at refl)
    record { begun = refl; placed = refl }
    (pin_here p.log.front vs id v r.pins at)
    (linked_kept p.pool.states vs id v (a) at (λ _. refl) (λ _. refl))
    (tree_kept k p h vs id v (a) r at refl (λ _. refl) (λ _. refl))

pub state_allowed : (k : Shape) (slots id q at_word : ℕ) (m : Mine) → at_word ≡ states_at k + (q - 1) → IsPage k q → Allows (Holds k) slots id m at_word (λ n. n) (LoadsState q (step slots at_word 0 0 none) m)
state_allowed k slots id q at_word m is page s h _ at _ =
    let p : Parts = parts_of k s.words in
    let found : ℕ = get_or s.words at_word 0 in
    let same : p.pool.states q ≡ found = state_at k s.words q page ∙ ap (λ (z : ℕ). get_or s.words z 0) (sym is) in (
      with_me m.0 (after_state m.0.me q found),
      keeps,
      tt,
      still k s at_word id m.1 m.0 (after_state m.0.me q found) h
          (subst (λ (n : ℕ). Rule k p (history_of k p) (set s.views id (with_me m.0 (after_state m.0.me q n)))) same (load_state k p (history_of k p) s.views id q m.0 h.rule at)),
      refl,
    )
