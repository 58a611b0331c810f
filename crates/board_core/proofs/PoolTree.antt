-- The pool under steps of the tree: pages that are reached, linked and unlinked. No step does this yet.
use Rattle.std.proofs.Common.{◌≡◌, ℕ, ◌+◌, ◌<◌, ◌≤◌, ◌⊎◌, List, ◌∷◌, length, set, sym, refl, ap, subst, arith, inl, inr, ⊎_elim}
use mathlib.Core.Option.{some}
use mathlib.Core.Logic.{dite}
use native.Mathlib.Decide.{ℕ_discrete}
use lib.ListN.{get_elem?}
use Rattle.htss_defs.specs.declared.shape.Shape.{Shape}
use Rattle.board_core.specs.declared.account.Account.{Account}
use Rattle.board_core.specs.declared.account.View.{View}
use Rattle.board_core.specs.declared.pool.Own.{Own}
use Rattle.board_core.specs.declared.pool.Parted.{Parted}
use Rattle.board_core.specs.declared.tree.TreeAccount.{TreeAccount}
use Rattle.board_core.specs.Each.{Each}
use Rattle.board_core.specs.Words.{PoolWords}
use Rattle.board_core.specs.Accounts.{with_me}
use Rattle.board_core.specs.Held.{held_in}
use Rattle.board_core.specs.Sheets.{Sheet, sheet_of, stamp_of, IsLinked, owns, parts, stamps}
use Rattle.board_core.specs.EpochRule.{claim_of}
use Rattle.board_core.specs.HeldRule.{HeldFits}
use Rattle.board_core.specs.ScanRule.{AreLater, Passed}
use Rattle.board_core.specs.PoolRule.{PoolRule}
use Rattle.board_core.specs.MarkRule.{IsAmong}
use Rattle.board_core.specs.Steps.{MayLink}
use Rattle.board_core.specs.After.{more_linked}
use Rattle.board_core.proofs.Everyone.{total_same, total_changed}
use Rattle.board_core.proofs.PageSums.{where_same, where_other, no_stamps}
use Rattle.board_core.proofs.PoolFrame.{KeepsHeld, each_gives, pool_claimed, pool_claim, counts_here, claim_here, held_here, scans_here, passed_here, alone_here, states_same}

-- a linked page has no stamp
pub linked_plain : (states : ℕ → ℕ) (vs : List View) (p : ℕ) → IsLinked (sheet_of states vs) p → stamp_of (sheet_of states vs) p ≡ 0
linked_plain states vs p l = let none = no_stamps vs p l.parted in let one = l.busy in omega arith

pub linked_held : (states : ℕ → ℕ) (vs : List View) (n p : ℕ) → 0 < n → IsLinked (sheet_of states vs) p → HeldFits (sheet_of states vs) n p
linked_held states vs n p pinned l = let plain = linked_plain states vs p l in let one = l.busy in record { pinned = pinned; busy = omega arith; owned = l.owned; later = λ above. absurd (omega arith) }

-- a word of a page was loaded: what is newly held is linked
pub pool_reaches : (k : Shape) (w : PoolWords) (vs : List View) (id : ℕ) (v : View) (t : TreeAccount) → PoolRule k w vs → get_elem? vs id ≡ some v
    → ((j q : ℕ) → get_elem? (held_in t.reached) j ≡ some q → IsAmong (held_in v.me.tree.reached) q ⊎ ((0 < v.me.pool.announced) × IsLinked (sheet_of w.states vs) q))
    → length v.me.tree.begun ≤ length t.begun → PoolRule k w (set vs id (with_me v (record v.me { tree = t })))
pool_reaches k w vs id v t r at news begun =
    let s : Sheet = sheet_of w.states vs in
    let old = claim_here k w vs id v r at in
    let by : (n : ℕ) → AreLater s n (held_in v.me.tree.reached) → AreLater s n (held_in t.reached) = λ n o j q h above.
    ⊎_elim (λ (y : IsAmong (held_in v.me.tree.reached) q). o y.0 q y.1 above) (λ (y : (0 < v.me.pool.announced) × IsLinked s q). let plain = linked_plain w.states vs q y.1 in absurd (omega arith)) (news j q h) in
    pool_claim k w vs id v r at w (record v.me { tree = t }) (λ p. refl) refl refl record { own = refl; linked = refl; begun = begun } (omega arith) r.epochs.most refl (λ x _ _. refl) (λ j _. refl)
    record { stored = old.stored; idle = old.idle; past = old.past; epochs = old.epochs; risen = old.risen; first = old.first; low = old.low }
    (λ j q h. ⊎_elim (λ (y : IsAmong (held_in v.me.tree.reached) q). held_here k w vs id v r at y.0 q y.1) (λ (y : (0 < v.me.pool.announced) × IsLinked s q). linked_held w.states vs v.me.pool.announced q y.0 y.1) (news j q h))
    (scans_here k w vs id v r at)
    (each_gives (λ x. Passed s (claim_of k x) (claim_of k v.me)) (λ x. Passed s (claim_of k x) (claim_of k (record v.me { tree = t }))) vs (λ x f above within. by x.pool.low (f above within)) (passed_here k w vs id v r at))
    (λ above within. by v.me.pool.low (alone_here k w vs id v r at above within))
    (states_same w.states vs id v (record v.me { tree = t }) r.states at refl refl)

-- own pages are let go, and at most one linked page is unlinked
pub record LetsGo (s : Sheet) (a : Account) (os : List Own) (us : List Parted) : Type 0 where
  pub own : (q : ℕ) → owns q os ≤ owns q a.pool.own
  pub parted : (q : ℕ) → (parts q us ≡ parts q a.pool.parted) ⊎ (IsLinked s q × (parts q us ≡ parts q a.pool.parted + 1))
  pub stamps : (q : ℕ) → stamps q us ≡ stamps q a.pool.parted

abbrev pub after_links : Account → List Own → List Parted → ℕ → TreeAccount → Account
after_links a os us n t = record a { pool = record a.pool { own = os; parted = us }; counts = more_linked n a.counts; tree = t }

-- n pages at most leave the own ones, for insertions that were begun
pub record LetsFew (a : Account) (os : List Own) (n : ℕ) (t : TreeAccount) : Type 0 where
  pub less : length os ≤ length a.pool.own
  pub few : length a.pool.own ≤ length os + n
  pub may : MayLink a n
  pub begun : t.begun ≡ a.tree.begun

pub pool_links : (k : Shape) (w : PoolWords) (vs : List View) (id : ℕ) (v : View) (os : List Own) (us : List Parted) (n : ℕ) (t : TreeAccount) → PoolRule k w vs → get_elem? vs id ≡ some v
    → LetsGo (sheet_of w.states vs) v.me os us → LetsFew v.me os n t → held_in t.reached ≡ held_in v.me.tree.reached
    → PoolRule k w (set vs id (with_me v (after_links v.me os us n t)))
pool_links k w vs id v os us n t r at go few same =
    let b : Account = after_links v.me os us n t in
    let s : Sheet = sheet_of w.states vs in
    let z : Sheet = sheet_of w.states (set vs id (with_me v b)) in
    let owned_less : (q : ℕ) → z.owned q ≤ s.owned q = λ q. let e : z.owned q + owns q v.me.pool.own ≡ s.owned q + owns q os = total_changed (λ x. owns q x.pool.own) vs id v b at in let less = go.own q in omega arith in
    let stamped_same : (q : ℕ) → z.stamped q ≡ s.stamped q = λ q. total_same (λ x. stamps q x.pool.parted) vs id v b at (go.stamps q) in
    pool_claimed k w vs id v r at w.states b (ap (λ (l : List ℕ). record (claim_of k v.me) { held = l }) same) refl
    (λ q. let fits = r.pages q in let once = fits.once in let past = fits.past in let less = owned_less q in let d = stamped_same q in
    let e : z.parted q + parts q v.me.pool.parted ≡ s.parted q + parts q us = total_changed (λ x. parts q x.pool.parted) vs id v b at in
    ⊎_elim
    (λ (y : parts q us ≡ parts q v.me.pool.parted). record { once = omega arith; busy = λ h. fits.busy (omega arith); past = omega arith })
    (λ (y : IsLinked s q × (parts q us ≡ parts q v.me.pool.parted + 1)). let l = y.0 in let y1 = y.1 in let o : s.owned q ≡ 0 = l.owned in let p : s.parted q ≡ 0 = l.parted in
    record { once = omega arith; busy = λ _. l.busy; past = omega arith })
    (go.parted q))
    (each_gives (λ x. Each (HeldFits s x.pool.announced) (held_in x.tree.reached)) (KeepsHeld s z w.epoch) vs
    (λ x f i q h. let fits = f i q h in let less = owned_less q in let d = stamped_same q in let none : s.owned q ≡ 0 = fits.owned in
    record { busy = fits.busy; owned = omega arith; later = inl (omega arith) }) r.held)
    (states_same w.states vs id v b r.states at refl refl)
    (let old = counts_here k w vs id v r at in let own = old.own in let less = few.less in let may = few.may in let begun : length t.begun ≡ length v.me.tree.begun = ap length few.begun in
    record { linked = omega arith; own = omega arith })
    (let most = few.few in omega arith)

-- one page that is unlinked, without a stamp
pub one_parted : (s : Sheet) (a : Account) (os : List Own) (p : ℕ) → IsLinked s p → ((q : ℕ) → owns q os ≤ owns q a.pool.own) → LetsGo s a os (record { page = p; stamp = 0 } ∷ a.pool.parted)
one_parted s a os p l less = record {
  own = less;
  parted = λ q. dite (ℕ_discrete q p) (λ y. let one = where_same q p 1 y in inr (subst (λ (x : ℕ). IsLinked s x) (sym y) l, omega arith)) (λ y. let none = where_other q p 1 y in inl (omega arith));
  stamps = λ q. dite (ℕ_discrete q p) (λ y. let e = where_same q p 0 y in omega arith) (λ y. let e = where_other q p 0 y in omega arith);
}

pub none_parted : (s : Sheet) (a : Account) (os : List Own) → ((q : ℕ) → owns q os ≤ owns q a.pool.own) → LetsGo s a os a.pool.parted
none_parted s a os less = record { own = less; parted = λ q. inl refl; stamps = λ q. refl }

-- a word of an own page was stored: the same pages are the caller's own
pub pool_stored : (k : Shape) (w : PoolWords) (vs : List View) (id : ℕ) (v : View) (os : List Own) → PoolRule k w vs → get_elem? vs id ≡ some v → ((p : ℕ) → owns p os ≡ owns p v.me.pool.own) → length os ≡ length v.me.pool.own
    → PoolRule k w (set vs id (with_me v (record v.me { pool = record v.me.pool { own = os } })))
pool_stored k w vs id v os r at same size =
    let b : Account = record v.me { pool = record v.me.pool { own = os } } in
    let old = claim_here k w vs id v r at in
    pool_claim k w vs id v r at w b same refl refl record { own = size; linked = refl; begun = omega arith } (omega arith) r.epochs.most refl (λ x _ _. refl) (λ j _. refl)
    record { stored = old.stored; idle = old.idle; past = old.past; epochs = old.epochs; risen = old.risen; first = old.first; low = old.low }
    (held_here k w vs id v r at) (scans_here k w vs id v r at) (passed_here k w vs id v r at) (alone_here k w vs id v r at)
    (states_same w.states vs id v b r.states at refl refl)
