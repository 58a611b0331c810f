-- The epoch is loaded: a scan begins, and unlinked pages have their stamps.
use Rattle.std.proofs.Common.{◌≡◌, ℕ, ◌+◌, ◌-◌, ◌<◌, ◌≤◌, ◌⊎◌, List, set, refl, ap, ◌∙◌, arith, inl, inr, ⊎_elim}
use mathlib.Core.Option.{some, none}
use lib.ListN.{get_elem?}
use Rattle.atomic_table.specs.Table.{step, keeps, Allows}
use Rattle.htss_defs.specs.declared.shape.Shape.{Shape}
use Rattle.htss_defs.specs.declared.history.Event.{Event}
use Rattle.board_core.specs.declared.account.Account.{Account}
use Rattle.board_core.specs.declared.account.View.{View}
use Rattle.board_core.specs.Each.{Each}
use Rattle.board_core.specs.Words.{Parts, PoolWords, parts_of}
use Rattle.board_core.specs.Histories.{history_of}
use Rattle.board_core.specs.Accounts.{with_me, EachAccount}
use Rattle.board_core.specs.Held.{held_in}
use Rattle.board_core.specs.Sheets.{Sheet, sheet_of, owns, parts, stamps}
use Rattle.board_core.specs.EpochRule.{claim_of, IsPast, ClaimFits}
use Rattle.board_core.specs.HeldRule.{HeldFits}
use Rattle.board_core.specs.ScanRule.{Passed}
use Rattle.board_core.specs.PoolRule.{PoolRule}
use Rattle.board_core.specs.Holds.{Rule, Holds}
use Rattle.board_core.specs.After.{after_epoch, stamp_all}
use Rattle.board_core.specs.Steps.{Mine, LoadsEpoch}
use Rattle.board_core.proofs.Lists.{each_snoc}
use Rattle.board_core.proofs.Everyone.{mine, at_most, total_changed, total_same}
use Rattle.board_core.proofs.PageSums.{no_stamp, only_total, parts_stamped, stamped_all}
use Rattle.board_core.proofs.PoolFrame.{counts_here, KeepsHeld, pool_moved, each_both, each_gives, claim_here, held_here, passed_here, all_held_kept, later_still, low_past, states_same}
use Rattle.board_core.proofs.Stepped.{still}
use Rattle.board_core.proofs.OwnFrame.{own_same}
use Rattle.board_core.proofs.Pooled.{linked_kept, tree_kept, by_pool}
use Rattle.board_core.proofs.OldMoved.{pin_here}

-- what a page's stamp becomes
Stamped : (s t : Sheet) → ℕ → ℕ → Type 0
Stamped s t e q = (t.stamped q ≡ s.stamped q) ⊎ ((t.stamped q ≡ e) × (0 < s.parted q))

pub epoch_pool : (k : Shape) (w : PoolWords) (vs : List View) (id : ℕ) (v : View) → PoolRule k w vs → get_elem? vs id ≡ some v → PoolRule k w (set vs id (with_me v (after_epoch v.me w.epoch)))
epoch_pool k w vs id v r at =
    let a : Account = v.me in
    let b : Account = after_epoch a w.epoch in
    let s : Sheet = sheet_of w.states vs in
    let t : Sheet = sheet_of w.states (set vs id (with_me v b)) in
    let old : ClaimFits w.epoch w.announced (claim_of k a) = claim_here k w vs id v r at in
    let owned_same : (q : ℕ) → t.owned q ≡ s.owned q = λ q. total_same (λ x. owns q x.pool.own) vs id v b at refl in
    let parted_same : (q : ℕ) → t.parted q ≡ s.parted q = λ q. total_same (λ x. parts q x.pool.parted) vs id v b at (parts_stamped w.epoch q a.pool.parted) in
    let stamped : (q : ℕ) → (t.stamped q ≡ s.stamped q) ⊎ ((t.stamped q ≡ w.epoch) × (0 < s.parted q)) = λ q.
    let once = (r.pages q).once in
    let part : parts q a.pool.parted ≤ s.parted q = at_most (λ x. parts q x.pool.parted) vs id v at in
    ⊎_elim
    (λ (y : stamps q (stamp_all w.epoch a.pool.parted) ≡ stamps q a.pool.parted). inl (total_same (λ x. stamps q x.pool.parted) vs id v b at y))
    (λ (y : (stamps q a.pool.parted ≡ 0) × (stamps q (stamp_all w.epoch a.pool.parted) ≡ w.epoch) × (0 < parts q a.pool.parted)).
    let y0 = y.0 in let y1 = y.1 in let y2 = y.2 in
    let only : s.stamped q ≡ stamps q a.pool.parted = only_total (λ x. parts q x.pool.parted) (λ x. stamps q x.pool.parted) (λ x. no_stamp q x.pool.parted) refl vs id v at (omega arith) in
    let sums : t.stamped q + stamps q a.pool.parted ≡ s.stamped q + stamps q (stamp_all w.epoch a.pool.parted) = total_changed (λ x. stamps q x.pool.parted) vs id v b at in
    inr (omega arith, omega arith))
    (stamped_all w.epoch q a.pool.parted (omega arith)) in
    let keeps : EachAccount (KeepsHeld s t w.epoch) vs = each_gives (λ x. Each (HeldFits s x.pool.announced) (held_in x.tree.reached)) (KeepsHeld s t w.epoch) vs (λ x h i q there.
    let fits = h i q there in
    record {
      busy = fits.busy;
      owned = owned_same q ∙ fits.owned;
      later = ⊎_elim (λ (y : t.stamped q ≡ s.stamped q). inl (ap (λ z. z + (w.states q - 1)) y)) (λ (y : (t.stamped q ≡ w.epoch) × (0 < s.parted q)). let y0 = y.0 in inr (omega arith)) (stamped q);
    }) r.held in
    let own_kept : KeepsHeld s t w.epoch a = mine (KeepsHeld s t w.epoch) vs id v at keeps in
    pool_moved k w w vs id v b t r at record {
      sheet = refl;
      epoch = omega arith;
      most = r.epochs.most;
      pages = λ q. let fits = r.pages q in let once = fits.once in let past = fits.past in let o = owned_same q in let p = parted_same q in record {
        once = omega arith;
        busy = λ h. fits.busy (omega arith);
        past = ⊎_elim (λ (y : t.stamped q ≡ s.stamped q). omega arith) (λ (y : (t.stamped q ≡ w.epoch) × (0 < s.parted q)). let y0 = y.0 in let y1 = y.1 in let one : w.states q ≡ 1 = fits.busy (omega arith) in omega arith) (stamped q);
      };
      claim = record { stored = old.stored; idle = old.idle; past = old.past; epochs = each_snoc (IsPast w.epoch) a.loads.epochs w.epoch (r.epochs.above, omega arith) old.epochs; risen = old.risen; first = omega arith; low = omega arith };
      others = λ x _ _. refl;
      blank = λ i _. refl;
      keeps = keeps;
      held = all_held_kept s t w.epoch a.pool.announced (held_in a.tree.reached) old.past own_kept (held_here k w vs id v r at);
      scans = λ j u there i x here above within. absurd (omega arith);
      passed = each_gives (λ x. ClaimFits w.epoch w.announced (claim_of k x) × Passed s (claim_of k x) (claim_of k a)) (λ x. Passed t (claim_of k x) (claim_of k b)) vs
          (λ x f above within. later_still s t w.epoch x.pool.low (held_in a.tree.reached) (low_past w.epoch w.announced (claim_of k x) f.0) own_kept (f.1 above within))
          (each_both _ _ vs r.epochs.claims (passed_here k w vs id v r at));
      alone = λ above within. absurd (omega arith);
      states = states_same w.states vs id v b r.states at refl refl;
      who = refl;
      counts = let fits = counts_here k w vs id v r at in record { linked = fits.linked; own = fits.own };
      taken = omega arith;
    }

pub load_epoch : (k : Shape) (p : Parts) (h : List Event) (vs : List View) (id : ℕ) (v : View) → Rule k p h vs → get_elem? vs id ≡ some v → Rule k p h (set vs id (with_me v (after_epoch v.me p.pool.epoch)))
load_epoch k p h vs id v r at = by_pool k p p.pool h vs id v (after_epoch v.me p.pool.epoch) r at
    record { who = refl; log = refl; room = refl; entries = refl; shown = refl; heads = refl; facts = refl; codes = refl; marks = refl }
    (λ q busy. busy)
    (epoch_pool k p.pool vs id v r.pool at)
    (own_same p.pages vs id v (after_epoch v.me p.pool.epoch) r.own at refl)
    record { begun = refl; placed = refl }
    (pin_here p.log.front vs id v r.pins at)
    (linked_kept p.pool.states vs id v (after_epoch v.me p.pool.epoch) at (λ _. refl) (λ q. parts_stamped p.pool.epoch q v.me.pool.parted))
    (tree_kept k p h vs id v (after_epoch v.me p.pool.epoch) r at refl (λ _. refl) (λ q. parts_stamped p.pool.epoch q v.me.pool.parted))

pub epoch_allowed : (k : Shape) (slots id : ℕ) (m : Mine) → Allows (Holds k) slots id m 2 (λ n. n) (LoadsEpoch (step slots 2 0 0 none) m)
epoch_allowed k slots id m s h _ at _ =
    let p : Parts = parts_of k s.words in
    let old = claim_here k p.pool s.views id m.0 h.rule.pool at in (
      with_me m.0 (after_epoch m.0.me p.pool.epoch),
      keeps,
      tt,
      still k s 2 id m.1 m.0 (after_epoch m.0.me p.pool.epoch) h (load_epoch k p (history_of k p) s.views id m.0 h.rule at),
      record { after = refl; above = h.rule.pool.epochs.above; most = h.rule.pool.epochs.most; later = old.epochs; risen = old.risen },
    )
