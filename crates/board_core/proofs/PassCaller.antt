-- An announcement is loaded: the scan has passed one caller more.
use Rattle.std.proofs.Common.{◌≡◌, ◌≢◌, ℕ, suc, ◌+◌, ◌-◌, ◌≤◌, List, set, get_or, min, cond, sym, refl, ap, ◌∙◌, subst, arith, eq-eqb, ne_eqb}
use mathlib.Core.Option.{some, none}
use mathlib.Core.Logic.{dite}
use native.Mathlib.Decide.{ℕ_discrete}
use lib.ListN.{get_elem?}
use Rattle.atomic_table.specs.Table.{step, keeps, Allows}
use Rattle.htss_defs.specs.declared.shape.Shape.{Shape}
use Rattle.htss_defs.specs.declared.history.Event.{Event}
use Rattle.board_core.specs.declared.account.Account.{Account}
use Rattle.board_core.specs.declared.account.View.{View}
use Rattle.board_core.specs.Each.{Each}
use Rattle.board_core.specs.Words.{Parts, PoolWords, parts_of}
use Rattle.board_core.specs.Histories.{history_of}
use Rattle.board_core.specs.Accounts.{with_me, EachAccount, seat_of}
use Rattle.board_core.specs.Held.{held_in}
use Rattle.board_core.specs.Sheets.{Sheet, sheet_of}
use Rattle.board_core.specs.EpochRule.{claim_of, ClaimFits}
use Rattle.board_core.specs.HeldRule.{HeldFits}
use Rattle.board_core.specs.ScanRule.{Passed}
use Rattle.board_core.specs.PoolRule.{PoolRule}
use Rattle.board_core.specs.Holds.{Rule, Holds}
use Rattle.board_core.specs.After.{after_pass, lower}
use Rattle.board_core.specs.Steps.{Mine, MayPass, Passes}
use Rattle.board_core.proofs.Everyone.{mine}
use Rattle.board_core.proofs.PoolFrame.{pool_claim, each_both, each_gives, claim_here, held_here, scans_here, passed_here, states_same}
use Rattle.board_core.proofs.Stepped.{still}
use Rattle.board_core.proofs.Stored.{part_at}
use Rattle.board_core.proofs.OwnFrame.{own_same}
use Rattle.board_core.proofs.Pooled.{linked_kept, tree_kept, by_pool}
use Rattle.board_core.proofs.OldMoved.{pin_here}

lower_most : (low n : ℕ) → lower low n ≤ low
lower_most low n = dite (ℕ_discrete n 0) (λ z. let e = ap (λ b. cond b low (min low n)) (eq-eqb n 0 z) in omega arith) (λ z. let e = ap (λ b. cond b low (min low n)) (ne_eqb n 0 z) in omega arith)

lower_found : (low n : ℕ) → n ≢ 0 → lower low n ≤ n
lower_found low n z = let e = ap (λ b. cond b low (min low n)) (ne_eqb n 0 z) in omega arith

pub pass_pool : (k : Shape) (w : PoolWords) (vs : List View) (id i : ℕ) (v : View) → PoolRule k w vs → get_elem? vs id ≡ some v → v.me.pool.passed ≡ i → PoolRule k w (set vs id (with_me v (after_pass v.me (w.announced i))))
pass_pool k w vs id i v r at here =
    let a : Account = v.me in
    let n : ℕ = w.announced i in
    let b : Account = after_pass a n in
    let s : Sheet = sheet_of w.states vs in
    let old = claim_here k w vs id v r at in
    let falls : lower a.pool.low n ≤ a.pool.low = lower_most a.pool.low n in
    let low = old.low in
    let sees : EachAccount (λ x. Passed s (claim_of k b) (claim_of k x)) vs =
    each_gives (λ x. ClaimFits w.epoch w.announced (claim_of k x) × (Each (HeldFits s x.pool.announced) (held_in x.tree.reached) × Passed s (claim_of k a) (claim_of k x))) (λ x. Passed s (claim_of k b) (claim_of k x)) vs
    (λ x f above within j q h some_stamp. dite (ℕ_discrete (seat_of k x.who) (suc i))
    (λ y. let fits = f.1.0 j q h in
    let pinned = fits.pinned in let later = fits.later some_stamp in
    let place : seat_of k x.who - 1 ≡ i = omega arith in
    let e : n ≡ x.pool.announced = ap w.announced (sym place) ∙ f.0.stored above in
    let most = lower_found a.pool.low n (omega arith) in omega arith)
    (λ y. let later = f.1.1 above (omega arith) j q h some_stamp in omega arith))
    (each_both _ _ vs r.epochs.claims (each_both _ _ vs r.held (scans_here k w vs id v r at))) in
    pool_claim k w vs id v r at w b (λ p. refl) refl refl record { own = refl; linked = refl; begun = omega arith } (omega arith) r.epochs.most refl (λ x _ _. refl) (λ j _. refl)
    record { stored = old.stored; idle = old.idle; past = old.past; epochs = old.epochs; risen = old.risen; first = old.first; low = omega arith }
    (held_here k w vs id v r at)
    sees
    (passed_here k w vs id v r at)
    (mine (λ x. Passed s (claim_of k b) (claim_of k x)) vs id v at sees)
    (states_same w.states vs id v b r.states at refl refl)

pub pass : (k : Shape) (p : Parts) (h : List Event) (vs : List View) (id i : ℕ) (v : View) → Rule k p h vs → get_elem? vs id ≡ some v → v.me.pool.passed ≡ i → Rule k p h (set vs id (with_me v (after_pass v.me (p.pool.announced i))))
pass k p h vs id i v r at here = by_pool k p p.pool h vs id v (after_pass v.me (p.pool.announced i)) r at
    record { who = refl; log = refl; room = refl; entries = refl; shown = refl; heads = refl; facts = refl; codes = refl; marks = refl }
    (λ q busy. busy)
    (pass_pool k p.pool vs id i v r.pool at here)
    (own_same p.pages vs id v (after_pass v.me (p.pool.announced i)) r.own at refl)
    record { begun = refl; placed = refl }
    (pin_here p.log.front vs id v r.pins at)
    (linked_kept p.pool.states vs id v (after_pass v.me (p.pool.announced i)) at (λ _. refl) (λ _. refl))
    (tree_kept k p h vs id v (after_pass v.me (p.pool.announced i)) r at refl (λ _. refl) (λ _. refl))

pub pass_allowed : (k : Shape) (slots id i at_word : ℕ) (m : Mine) → at_word ≡ 3 + i → MayPass k m.0.me i → Allows (Holds k) slots id m at_word (λ n. n) (Passes (step slots at_word 0 0 none) m)
pass_allowed k slots id i at_word m is may s h _ at _ =
    let p : Parts = parts_of k s.words in
    let found : ℕ = get_or s.words at_word 0 in
    let same : p.pool.announced i ≡ found = part_at 3 (k.loaders + k.searchers) s.words i may.inside ∙ ap (λ (z : ℕ). get_or s.words z 0) (sym is) in (
      with_me m.0 (after_pass m.0.me found),
      keeps,
      tt,
      still k s at_word id m.1 m.0 (after_pass m.0.me found) h
          (subst (λ (n : ℕ). Rule k p (history_of k p) (set s.views id (with_me m.0 (after_pass m.0.me n)))) same (pass k p (history_of k p) s.views id i m.0 h.rule at may.here)),
      refl,
    )
