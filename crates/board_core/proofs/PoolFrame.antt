-- What a step leaves of the pool: one law for all kinds of step, and the page that nobody holds.
use Rattle.std.proofs.Common.{◌≡◌, ◌≢◌, ℕ, ◌-◌, ◌<◌, ◌≤◌, ◌⊎◌, List, set, sym, refl, ap, ◌∙◌, subst, arith, inl, ⊎_elim, ◌+◌, length}
use mathlib.Core.Option.{some}
use lib.ListN.{get_elem?}
use Rattle.htss_defs.specs.declared.shape.Shape.{Shape}
use Rattle.board_core.specs.declared.account.Account.{Account}
use Rattle.board_core.specs.declared.account.View.{View}
use Rattle.board_core.specs.declared.pool.PoolAccount.{PoolAccount}
use Rattle.board_core.specs.declared.loads.StateLoad.{StateLoad}
use Rattle.board_core.specs.Each.{Each}
use Rattle.board_core.specs.Words.{PoolWords}
use Rattle.board_core.specs.Accounts.{with_me, EachAccount, total, IsOther, seat_of, made_by}
use Rattle.board_core.specs.Held.{held_in}
use Rattle.board_core.specs.Sheets.{Sheet, sheet_of, stamp_of, owns, parts, stamps}
use Rattle.board_core.specs.SeatRule.{made}
use Rattle.board_core.specs.EpochRule.{Claim, claim_of, ClaimFits, last_epoch}
use Rattle.board_core.specs.PageRule.{PageFits}
use Rattle.board_core.specs.HeldRule.{HeldFits}
use Rattle.board_core.specs.ScanRule.{AreLater, Passed}
use Rattle.board_core.specs.StateRule.{StatesStand, StateRule}
use Rattle.board_core.specs.PoolRule.{PoolRule}
use Rattle.board_core.proofs.Everyone.{mine, moved, changed, total_same}
use Rattle.board_core.specs.CountRule.{busy_up_to, pages_of, CountFits, CountRule}
use Rattle.board_core.proofs.CountFrame.{counts_moved, SameCounts, same_fits}

-- ---- what all accounts say of pages

-- sums that are as they were
pub sheet_is : (states : ℕ → ℕ) (vs ws : List View) → ((p : ℕ) → total (λ a. owns p a.pool.own) ws ≡ total (λ a. owns p a.pool.own) vs) → ((p : ℕ) → total (λ a. parts p a.pool.parted) ws ≡ total (λ a. parts p a.pool.parted) vs) → ((p : ℕ) → total (λ a. stamps p a.pool.parted) ws ≡ total (λ a. stamps p a.pool.parted) vs) → sheet_of states ws ≡ sheet_of states vs
sheet_is states vs ws o p s i = record { state = states; owned = λ q. o q i; parted = λ q. p q i; stamped = λ q. s q i }

pub sheet_same : (states : ℕ → ℕ) (vs : List View) (id : ℕ) (v : View) (a : Account) → get_elem? vs id ≡ some v → ((p : ℕ) → owns p a.pool.own ≡ owns p v.me.pool.own) → a.pool.parted ≡ v.me.pool.parted → sheet_of states (set vs id (with_me v a)) ≡ sheet_of states vs
sheet_same states vs id v a at own parted = sheet_is states vs (set vs id (with_me v a))
    (λ p. total_same (λ x. owns p x.pool.own) vs id v a at (own p))
    (λ p. total_same (λ x. parts p x.pool.parted) vs id v a at (ap (parts p) parted))
    (λ p. total_same (λ x. stamps p x.pool.parted) vs id v a at (ap (stamps p) parted))

pub each_both : (F G : Account → Type 0) (vs : List View) → EachAccount F vs → EachAccount G vs → EachAccount (λ x. F x × G x) vs
each_both F G vs f g j u at i x there = (f j u at i x there, g j u at i x there)

pub each_gives : (F G : Account → Type 0) (vs : List View) → ((x : Account) → F x → G x) → EachAccount F vs → EachAccount G vs
each_gives F G vs gives f j u at i x there = gives x (f j u at i x there)

-- ---- what a step may do to a page that somebody holds

-- its stamp stays, or is no earlier than the epoch
pub record Keeps (s t : Sheet) (epoch p : ℕ) : Type 0 where
  pub busy : 0 < t.state p
  pub owned : t.owned p ≡ 0
  pub later : (stamp_of t p ≡ stamp_of s p) ⊎ (epoch ≤ stamp_of t p)

abbrev pub KeepsHeld : Sheet → Sheet → ℕ → Account → Type 0
KeepsHeld s t epoch a = Each (Keeps s t epoch) (held_in a.tree.reached)

later_kept : (x y e n : ℕ) → n ≤ e → (y ≡ x) ⊎ (e ≤ y) → (0 < x → n ≤ x) → 0 < y → n ≤ y
later_kept x y e n most c old above = ⊎_elim (λ (h : y ≡ x). let t = old (omega arith) in omega arith) (λ (h : e ≤ y). omega arith) c

held_kept : (s t : Sheet) (e n p : ℕ) → n ≤ e → Keeps s t e p → HeldFits s n p → HeldFits t n p
held_kept s t e n p most c h = record { pinned = h.pinned; busy = c.busy; owned = c.owned; later = later_kept (stamp_of s p) (stamp_of t p) e n most c.later h.later }

pub all_held_kept : (s t : Sheet) (e n : ℕ) (ps : List ℕ) → n ≤ e → Each (Keeps s t e) ps → Each (HeldFits s n) ps → Each (HeldFits t n) ps
all_held_kept s t e n ps most c h j p at = held_kept s t e n p most (c j p at) (h j p at)

pub later_still : (s t : Sheet) (e n : ℕ) (ps : List ℕ) → n ≤ e → Each (Keeps s t e) ps → AreLater s n ps → AreLater t n ps
later_still s t e n ps most c h j p at = later_kept (stamp_of s p) (stamp_of t p) e n most (c j p at).later (h j p at)

-- a sheet that is as it was
pub same_keeps : (s : Sheet) (e n : ℕ) (ps : List ℕ) → Each (HeldFits s n) ps → Each (Keeps s s e) ps
same_keeps s e n ps h j p at = record { busy = (h j p at).busy; owned = (h j p at).owned; later = inl refl }

-- ---- claims

pub claim_later : (e f : ℕ) (x y : ℕ → ℕ) (c : Claim) → e ≤ f → (0 < c.seat → y (c.seat - 1) ≡ x (c.seat - 1)) → ClaimFits e x c → ClaimFits f y c
claim_later e f x y c more same h = let past = h.past in let first = h.first in let risen = h.risen in record {
  stored = λ above. same above ∙ h.stored above;
  idle = h.idle;
  past = omega arith;
  epochs = λ j n at. let t = h.epochs j n at in let most : n ≤ e = t.1 in (t.0, omega arith);
  risen = omega arith;
  first = omega arith;
  low = h.low;
}

pub low_past : (e : ℕ) (x : ℕ → ℕ) (c : Claim) → ClaimFits e x c → c.low ≤ e
low_past e x c h = let first = h.first in let low = h.low in omega arith

-- ---- the one law

-- all that a step owes
pub record Moves (k : Shape) (w u : PoolWords) (vs : List View) (id : ℕ) (v : View) (b : Account) (s t : Sheet) : Type 0 where
  pub sheet : t ≡ sheet_of u.states (set vs id (with_me v b))
  pub epoch : w.epoch ≤ u.epoch
  pub most : u.epoch ≤ last_epoch
  pub pages : (p : ℕ) → PageFits u.epoch t p
  pub claim : ClaimFits u.epoch u.announced (claim_of k b)
  pub others : (x : Account) → IsOther vs v.me x → 0 < seat_of k x.who → u.announced (seat_of k x.who - 1) ≡ w.announced (seat_of k x.who - 1)
  pub blank : (i : ℕ) → made vs ≤ i → u.announced i ≡ w.announced i
  pub keeps : EachAccount (KeepsHeld s t w.epoch) vs
  pub held : Each (HeldFits t b.pool.announced) (held_in b.tree.reached)
  pub scans : EachAccount (λ x. Passed t (claim_of k b) (claim_of k x)) vs
  pub passed : EachAccount (λ x. Passed t (claim_of k x) (claim_of k b)) vs
  pub alone : Passed t (claim_of k b) (claim_of k b)
  pub states : StateRule u.states (set vs id (with_me v b))
  pub who : b.who ≡ v.me.who
  pub counts : CountFits b
  pub taken : busy_up_to u.states k.pages + pages_of v.me ≤ busy_up_to w.states k.pages + pages_of b

pub pool_moved : (k : Shape) (w u : PoolWords) (vs : List View) (id : ℕ) (v : View) (b : Account) (t : Sheet) → PoolRule k w vs → get_elem? vs id ≡ some v
    → Moves k w u vs id v b (sheet_of w.states vs) t → PoolRule k u (set vs id (with_me v b))
pool_moved k w u vs id v b t r at m =
    let s : Sheet = sheet_of w.states vs in
    let ws : List View = set vs id (with_me v b) in
    let as_many : made ws ≡ made vs = total_same (λ x. made_by x.who) vs id v b at (ap made_by m.who) in record {
      epochs = record {
        above = let above = r.epochs.above in let more = m.epoch in omega arith;
        most = m.most;
        claims = moved (λ x. ClaimFits w.epoch w.announced (claim_of k x)) (λ x. ClaimFits u.epoch u.announced (claim_of k x)) vs id v b at m.claim
            (λ x other fits. claim_later w.epoch u.epoch w.announced u.announced (claim_of k x) m.epoch (m.others x other) fits) r.epochs.claims;
        none_past = λ i past. let before : made vs ≤ i = omega arith in m.blank i before ∙ r.epochs.none_past i before;
      };
      pages = subst (λ (x : Sheet). (p : ℕ) → PageFits u.epoch x p) m.sheet m.pages;
      held = subst (λ (x : Sheet). EachAccount (λ y. Each (HeldFits x y.pool.announced) (held_in y.tree.reached)) ws) m.sheet
          (moved (λ x. ClaimFits w.epoch w.announced (claim_of k x) × (KeepsHeld s t w.epoch x × Each (HeldFits s x.pool.announced) (held_in x.tree.reached))) (λ x. Each (HeldFits t x.pool.announced) (held_in x.tree.reached)) vs id v b at m.held
          (λ x _ f. all_held_kept s t w.epoch x.pool.announced (held_in x.tree.reached) f.0.past f.1.0 f.1.1)
          (each_both _ _ vs r.epochs.claims (each_both _ _ vs m.keeps r.held)));
      scans = subst (λ (x : Sheet). EachAccount (λ y. EachAccount (λ z. Passed x (claim_of k y) (claim_of k z)) ws) ws) m.sheet
          (moved (λ x. ClaimFits w.epoch w.announced (claim_of k x) × (Passed t (claim_of k x) (claim_of k b) × EachAccount (λ y. Passed s (claim_of k x) (claim_of k y)) vs)) (λ x. EachAccount (λ y. Passed t (claim_of k x) (claim_of k y)) ws) vs id v b at
          (changed (λ y. Passed t (claim_of k b) (claim_of k y)) vs id v b at m.alone m.scans)
          (λ x _ f. moved (λ y. KeepsHeld s t w.epoch y × Passed s (claim_of k x) (claim_of k y)) (λ y. Passed t (claim_of k x) (claim_of k y)) vs id v b at f.1.0
          (λ y _ g above within. later_still s t w.epoch x.pool.low (held_in y.tree.reached) (low_past w.epoch w.announced (claim_of k x) f.0) g.0 (g.1 above within))
          (each_both _ _ vs m.keeps f.1.1))
          (each_both _ _ vs r.epochs.claims (each_both _ _ vs m.passed r.scans)));
      states = m.states;
      counts = counts_moved k w.states u.states vs id v b r.counts at m.counts m.taken;
    }

-- what the rule says of one account
module _ (k : Shape) (w : PoolWords) (vs : List View) (id : ℕ) (v : View) (r : PoolRule k w vs) (at : get_elem? vs id ≡ some v) where
  pub claim_here : ClaimFits w.epoch w.announced (claim_of k v.me)
  claim_here = mine (λ x. ClaimFits w.epoch w.announced (claim_of k x)) vs id v at r.epochs.claims

  pub held_here : Each (HeldFits (sheet_of w.states vs) v.me.pool.announced) (held_in v.me.tree.reached)
  held_here = mine (λ x. Each (HeldFits (sheet_of w.states vs) x.pool.announced) (held_in x.tree.reached)) vs id v at r.held

  pub scans_here : EachAccount (λ y. Passed (sheet_of w.states vs) (claim_of k v.me) (claim_of k y)) vs
  scans_here = mine (λ x. EachAccount (λ y. Passed (sheet_of w.states vs) (claim_of k x) (claim_of k y)) vs) vs id v at r.scans

  pub passed_here : EachAccount (λ x. Passed (sheet_of w.states vs) (claim_of k x) (claim_of k v.me)) vs
  passed_here = each_gives (λ x. EachAccount (λ y. Passed (sheet_of w.states vs) (claim_of k x) (claim_of k y)) vs) (λ x. Passed (sheet_of w.states vs) (claim_of k x) (claim_of k v.me)) vs
      (λ x f. mine (λ y. Passed (sheet_of w.states vs) (claim_of k x) (claim_of k y)) vs id v at f) r.scans

  pub alone_here : Passed (sheet_of w.states vs) (claim_of k v.me) (claim_of k v.me)
  alone_here = mine (λ y. Passed (sheet_of w.states vs) (claim_of k v.me) (claim_of k y)) vs id v at scans_here

  -- a step that leaves the claim as it was: what is owed of the sheet and of the states loaded
  pub pool_claimed : (g : ℕ → ℕ) (b : Account) → claim_of k b ≡ claim_of k v.me → b.who ≡ v.me.who
      → ((p : ℕ) → PageFits w.epoch (sheet_of g (set vs id (with_me v b))) p)
      → EachAccount (KeepsHeld (sheet_of w.states vs) (sheet_of g (set vs id (with_me v b))) w.epoch) vs
      → StateRule g (set vs id (with_me v b))
      → CountFits b → busy_up_to g k.pages + pages_of v.me ≤ busy_up_to w.states k.pages + pages_of b
      → PoolRule k (record w { states = g }) (set vs id (with_me v b))
  pool_claimed g b same who pages keeps states counts taken =
      let s : Sheet = sheet_of w.states vs in
      let t : Sheet = sheet_of g (set vs id (with_me v b)) in
      let c : Claim = claim_of k v.me in
      let low = low_past w.epoch w.announced c claim_here in
      let own_kept : KeepsHeld s t w.epoch v.me = mine (KeepsHeld s t w.epoch) vs id v at keeps in
      pool_moved k w (record w { states = g }) vs id v b t r at record {
        sheet = refl;
        epoch = omega arith;
        most = r.epochs.most;
        pages = pages;
        claim = subst (λ (x : Claim). ClaimFits w.epoch w.announced x) (sym same) claim_here;
        others = λ x _ _. refl;
        blank = λ i _. refl;
        keeps = keeps;
        held = subst (λ (x : Claim). Each (HeldFits t x.announced) x.held) (sym same) (all_held_kept s t w.epoch c.announced c.held claim_here.past own_kept held_here);
        scans = subst (λ (x : Claim). EachAccount (λ y. Passed t x (claim_of k y)) vs) (sym same)
            (each_gives (λ y. KeepsHeld s t w.epoch y × Passed s c (claim_of k y)) (λ y. Passed t c (claim_of k y)) vs (λ y f above within. later_still s t w.epoch c.low (held_in y.tree.reached) low f.0 (f.1 above within)) (each_both _ _ vs keeps scans_here));
        passed = subst (λ (x : Claim). EachAccount (λ y. Passed t (claim_of k y) x) vs) (sym same)
            (each_gives (λ y. ClaimFits w.epoch w.announced (claim_of k y) × Passed s (claim_of k y) c) (λ y. Passed t (claim_of k y) c) vs
            (λ y f above within. later_still s t w.epoch y.pool.low c.held (low_past w.epoch w.announced (claim_of k y) f.0) own_kept (f.1 above within)) (each_both _ _ vs r.epochs.claims passed_here));
        alone = subst (λ (x : Claim). Passed t x x) (sym same) (λ above within. later_still s t w.epoch c.low c.held low own_kept (alone_here above within));
        states = states;
        who = who;
        counts = counts;
        taken = taken;
      }

  pub counts_here : CountFits v.me
  counts_here = mine CountFits vs id v at r.counts.fits

  -- a step that leaves each page's numbers: what is owed of the changed claim
  pub pool_claim : (u : PoolWords) (b : Account) → ((p : ℕ) → owns p b.pool.own ≡ owns p v.me.pool.own) → b.pool.parted ≡ v.me.pool.parted → b.who ≡ v.me.who → SameCounts v.me b → w.epoch ≤ u.epoch → u.epoch ≤ last_epoch → u.states ≡ w.states
      → ((x : Account) → IsOther vs v.me x → 0 < seat_of k x.who → u.announced (seat_of k x.who - 1) ≡ w.announced (seat_of k x.who - 1))
      → ((i : ℕ) → made vs ≤ i → u.announced i ≡ w.announced i)
      → ClaimFits u.epoch u.announced (claim_of k b)
      → Each (HeldFits (sheet_of w.states vs) b.pool.announced) (held_in b.tree.reached)
      → EachAccount (λ x. Passed (sheet_of w.states vs) (claim_of k b) (claim_of k x)) vs
      → EachAccount (λ x. Passed (sheet_of w.states vs) (claim_of k x) (claim_of k b)) vs
      → Passed (sheet_of w.states vs) (claim_of k b) (claim_of k b)
      → StateRule w.states (set vs id (with_me v b))
      → PoolRule k u (set vs id (with_me v b))
  pool_claim u b own part who counts more most same others blank claim held scans passed alone states =
      let s : Sheet = sheet_of w.states vs in
      pool_moved k w u vs id v b s r at record {
        sheet = sym (sheet_same w.states vs id v b at own part) ∙ ap (λ f. sheet_of f (set vs id (with_me v b))) (sym same);
        epoch = more;
        most = most;
        pages = λ p. let fits = r.pages p in let past = fits.past in record { once = fits.once; busy = fits.busy; past = omega arith };
        claim = claim;
        others = others;
        blank = blank;
        keeps = each_gives (λ x. Each (HeldFits s x.pool.announced) (held_in x.tree.reached)) (KeepsHeld s s w.epoch) vs (λ x h. same_keeps s w.epoch x.pool.announced (held_in x.tree.reached) h) r.held;
        held = held;
        scans = scans;
        passed = passed;
        alone = alone;
        states = subst (λ (f : ℕ → ℕ). StateRule f (set vs id (with_me v b))) (sym same) states;
        who = who;
        counts = same_fits v.me b who counts counts_here;
        taken = let busy_same : busy_up_to u.states k.pages ≡ busy_up_to w.states k.pages = ap (λ f. busy_up_to f k.pages) same in let had = counts.own in let linked = counts.linked in omega arith;
      }

-- states that were loaded stand, whatever becomes of the account that has them
pub states_same : (states : ℕ → ℕ) (vs : List View) (id : ℕ) (v : View) (a : Account) → StateRule states vs → get_elem? vs id ≡ some v → a.loads.states ≡ v.me.loads.states → a.loads.lost ≡ v.me.loads.lost → StateRule states (set vs id (with_me v a))
states_same states vs id v a r at seen lost = let own = mine (λ x. StatesStand states x.loads) vs id v at r in changed (λ x. StatesStand states x.loads) vs id v a at record {
  seen = subst (λ (l : List StateLoad). Each (λ x. x.word ≢ 0 → states x.page ≢ 0) l) (sym seen) own.seen;
  lost = subst (λ (l : List StateLoad). Each (λ x. states x.page ≢ 0) l) (sym lost) own.lost;
} r

-- a step that touches nothing of the pool
pub pool_same : (k : Shape) (w : PoolWords) (vs : List View) (id : ℕ) (v : View) (a : Account) → PoolRule k w vs → get_elem? vs id ≡ some v
    → a.who ≡ v.me.who → a.pool ≡ v.me.pool → SameCounts v.me a → held_in a.tree.reached ≡ held_in v.me.tree.reached → a.loads.epochs ≡ v.me.loads.epochs → a.loads.states ≡ v.me.loads.states → a.loads.lost ≡ v.me.loads.lost
    → PoolRule k w (set vs id (with_me v a))
pool_same k w vs id v a r at who pool counts held epochs states lost =
    let s : Sheet = sheet_of w.states vs in
    let same : claim_of k a ≡ claim_of k v.me = λ i. record { seat = seat_of k (who i); announced = (pool i).announced; epochs = epochs i; risen = (pool i).risen; first = (pool i).first; low = (pool i).low; passed = (pool i).passed; held = held i } in
    pool_claim k w vs id v r at w a (λ p. ap (λ (x : PoolAccount). owns p x.own) pool) (ap (λ (x : PoolAccount). x.parted) pool) who counts (omega arith) r.epochs.most refl (λ x _ _. refl) (λ i _. refl)
    (subst (λ (x : Claim). ClaimFits w.epoch w.announced x) (sym same) (claim_here k w vs id v r at))
    (subst (λ (x : Claim). Each (HeldFits s x.announced) x.held) (sym same) (held_here k w vs id v r at))
    (subst (λ (x : Claim). EachAccount (λ y. Passed s x (claim_of k y)) vs) (sym same) (scans_here k w vs id v r at))
    (subst (λ (x : Claim). EachAccount (λ y. Passed s (claim_of k y) x) vs) (sym same) (passed_here k w vs id v r at))
    (subst (λ (x : Claim). Passed s x x) (sym same) (alone_here k w vs id v r at))
    (states_same w.states vs id v a r.states at states lost)
