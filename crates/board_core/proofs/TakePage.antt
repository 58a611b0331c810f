-- A page is taken: it was free, or retired so long ago that nobody holds it.
use Rattle.std.proofs.Common.{◌≡◌, ◌≢◌, ℕ, zero, suc, ◌+◌, ◌-◌, ◌<◌, ◌≤◌, ◌==◌, List, set, get_or, sym, refl, ap, ◌∙◌, subst, arith, inl, eq-eqb, ne_eqb, ◌*◌}
use mathlib.Core.Option.{some, none}
use mathlib.Core.Logic.{dite}
use native.Mathlib.Decide.{ℕ_discrete}
use prog.Atomic.{either}
use lib.ListN.{get_elem?}
use Rattle.atomic_table.specs.Table.{step, keeps, stepped, Allows}
use Rattle.htss_defs.specs.declared.shape.Shape.{Shape}
use Rattle.htss_defs.specs.declared.history.Event.{Event}
use Rattle.board_core.specs.declared.account.Account.{Account}
use Rattle.board_core.specs.declared.account.View.{View}
use Rattle.board_core.specs.Each.{Each}
use Rattle.board_core.specs.Words.{Parts, PoolWords, parts_of, states_at, stored}
use Rattle.board_core.specs.Histories.{history_of}
use Rattle.board_core.specs.Accounts.{with_me, EachAccount, seat_of, is_loader}
use Rattle.board_core.specs.Held.{held_in}
use Rattle.board_core.specs.Sheets.{Sheet, sheet_of, stamp_of, where_page, owns, parts, stamps}
use Rattle.board_core.specs.SeatRule.{SeatRule, WhoFits}
use Rattle.board_core.specs.EpochRule.{claim_of, ClaimFits}
use Rattle.board_core.specs.PageRule.{PageFits}
use Rattle.board_core.specs.HeldRule.{HeldFits}
use Rattle.board_core.specs.ScanRule.{Passed}
use Rattle.board_core.specs.StateRule.{StatesStand, StateRule}
use Rattle.board_core.specs.PoolRule.{PoolRule}
use Rattle.board_core.specs.Holds.{Rule, Holds}
use Rattle.board_core.specs.After.{after_page, after_lost}
use Rattle.board_core.specs.Steps.{Mine, MayTakePage, TakesPage}
use Rattle.board_core.proofs.Everyone.{mine, at_most, moved, total_same, total_changed}
use Rattle.board_core.proofs.PageSums.{where_same, where_other, no_stamps}
use Rattle.board_core.proofs.PoolFrame.{Keeps, KeepsHeld, each_both, each_gives, pool_claimed, scans_here, counts_here}
use Rattle.board_core.proofs.Stepped.{still, words_moved}
use Rattle.board_core.proofs.Stored.{stored_here, stored_else}
use Rattle.board_core.proofs.OwnFrame.{own_taken}
use Rattle.board_core.proofs.Pooled.{by_pool, tree_stays, seat_within, state_at, put_state}
use Rattle.board_core.proofs.LoadState.{lose_state}
use Rattle.board_core.specs.Rows.{codes_in}
use Rattle.board_core.specs.OldRows.{IsOldRow}
use Rattle.board_core.specs.TreeRule.{TreeRule}
use Rattle.board_core.specs.Sheets.{IsLinked}
use Rattle.board_core.proofs.OldMoved.{pin_here}
use Rattle.board_core.proofs.CountFrame.{stored_busier}

-- ---- pages of which no number changed

pub page_same : (s t : Sheet) (e p : ℕ) → t.state p ≡ s.state p → t.owned p ≡ s.owned p → t.parted p ≡ s.parted p → t.stamped p ≡ s.stamped p → PageFits e s p → PageFits e t p
page_same s t e p a b c d f = let once = f.once in let past = f.past in record { once = omega arith; busy = λ h. a ∙ f.busy (omega arith); past = omega arith }

pub page_kept : (s t : Sheet) (e n p : ℕ) → t.state p ≡ s.state p → t.owned p ≡ s.owned p → t.stamped p ≡ s.stamped p → HeldFits s n p → Keeps s t e p
page_kept s t e n p a b d f = let busy = f.busy in record { busy = omega arith; owned = b ∙ f.owned; later = inl (omega arith) }

-- a state that is not free is stored: no page becomes free
pub never_free : (f : ℕ → ℕ) (i n : ℕ) → n ≢ 0 → (x : ℕ) → f x ≢ 0 → stored f i n x ≢ 0
never_free f i n busy x h z = dite (ℕ_discrete x i) (λ y. busy (sym (stored_here f i n) ∙ (ap (stored f i n) (sym y) ∙ z))) (λ y. h (sym (stored_else f i n x y) ∙ z))

pub states_kept : (f : ℕ → ℕ) (i n : ℕ) (vs : List View) (id : ℕ) (v : View) (a : Account) → n ≢ 0 → StateRule f vs → get_elem? vs id ≡ some v → a.loads ≡ v.me.loads → StateRule (stored f i n) (set vs id (with_me v a))
states_kept f i n vs id v a busy r at same =
    let later : (x : Account) → StatesStand f x.loads → StatesStand (stored f i n) x.loads = λ x t. record { seen = λ j l there word. never_free f i n busy l.page (t.seen j l there word); lost = λ j l there. never_free f i n busy l.page (t.lost j l there) } in
    moved (λ x. StatesStand f x.loads) (λ x. StatesStand (stored f i n) x.loads) vs id v a at (subst (StatesStand (stored f i n)) (sym same) (later v.me (mine (λ x. StatesStand f x.loads) vs id v at r))) (λ x _ t. later x t) r

unless_busy : (n x : ℕ) → x ≢ 1 → (0 < n → x ≡ 1) → n ≡ 0
unless_busy zero x other h = refl
unless_busy (suc n) x other h = absurd (other (h (omega arith)))

-- ---- nobody holds a page that may be taken

abbrev HoldsNot : ℕ → Account → Type 0
HoldsNot p a = (j : ℕ) → get_elem? (held_in a.tree.reached) j ≡ some p → ⊥

pub not_held : (k : Shape) (w : PoolWords) (vs : List View) (id loader p : ℕ) (v : View) → SeatRule k vs → PoolRule k w vs → get_elem? vs id ≡ some v → MayTakePage k v.me loader p (w.states p) → EachAccount (HoldsNot p) vs
not_held k w vs id loader p v seats r at may =
    let s : Sheet = sheet_of w.states vs in
    each_gives (λ x. WhoFits k x.who × (ClaimFits w.epoch w.announced (claim_of k x) × (Each (HeldFits s x.pool.announced) (held_in x.tree.reached) × Passed s (claim_of k v.me) (claim_of k x)))) (HoldsNot p) vs
    (λ x f j there.
    let fits = f.1.1.0 j p there in
    let pinned = fits.pinned in
    let busy : 0 < w.states p = fits.busy in
    let other : w.states p ≢ 1 = may.other in
    let taken : w.states p ≢ 0 = λ z. omega arith in
    let low : w.states p ≤ v.me.pool.low = may.below taken in
    let all : k.loaders + k.searchers ≤ v.me.pool.passed = may.scanned taken in
    let most : seat_of k x.who ≤ k.loaders + k.searchers = seat_within k x.who f.0 in
    let above : 0 < seat_of k x.who = (dite (ℕ_discrete (seat_of k x.who) 0) (λ z. let idle : x.pool.announced ≡ 0 = f.1.0.idle z in absurd (omega arith)) (λ z. omega arith)) in
    let none : s.owned p + s.parted p ≡ 0 = unless_busy (s.owned p + s.parted p) (w.states p) other (r.pages p).busy in
    let stamped : s.stamped p ≡ 0 = no_stamps vs p (omega arith) in
    let later : v.me.pool.low ≤ stamp_of s p = f.1.1.1 above (omega arith) j p there (omega arith) in omega arith)
    (each_both _ _ vs seats.limits (each_both _ _ vs r.epochs.claims (each_both _ _ vs r.held (scans_here k w vs id v r at))))

-- nor is it anybody's own
own_before : (k : Shape) (w : PoolWords) (vs : List View) (id loader p : ℕ) (v : View) → PoolRule k w vs → get_elem? vs id ≡ some v → MayTakePage k v.me loader p (w.states p) → owns p v.me.pool.own ≡ 0
own_before k w vs id loader p v r at may =
    let s : Sheet = sheet_of w.states vs in
    let none : s.owned p + s.parted p ≡ 0 = unless_busy (s.owned p + s.parted p) (w.states p) may.other (r.pages p).busy in
    let part : owns p v.me.pool.own ≤ s.owned p = at_most (λ x. owns p x.pool.own) vs id v at in omega arith

-- ---- the law

pub take_pool : (k : Shape) (w : PoolWords) (vs : List View) (id loader p : ℕ) (v : View) → SeatRule k vs → PoolRule k w vs → get_elem? vs id ≡ some v → MayTakePage k v.me loader p (w.states p)
    → PoolRule k (record w { states = stored w.states p 1 }) (set vs id (with_me v (after_page v.me p)))
take_pool k w vs id loader p v seats r at may =
    let b : Account = after_page v.me p in
    let g : ℕ → ℕ = stored w.states p 1 in
    let s : Sheet = sheet_of w.states vs in
    let t : Sheet = sheet_of g (set vs id (with_me v b)) in
    let parted_same : (q : ℕ) → t.parted q ≡ s.parted q = λ q. total_same (λ x. parts q x.pool.parted) vs id v b at refl in
    let stamped_same : (q : ℕ) → t.stamped q ≡ s.stamped q = λ q. total_same (λ x. stamps q x.pool.parted) vs id v b at refl in
    let owned_more : (q : ℕ) → t.owned q ≡ s.owned q + where_page q p 1 = λ q.
    let sum : t.owned q + owns q v.me.pool.own ≡ s.owned q + (where_page q p 1 + owns q v.me.pool.own) = total_changed (λ x. owns q x.pool.own) vs id v b at in omega arith in
    let owned_same : (q : ℕ) → q ≢ p → t.owned q ≡ s.owned q = λ q n. let z = where_other q p 1 n in let e = owned_more q in omega arith in
    pool_claimed k w vs id v r at g b refl refl
    (λ q. dite (ℕ_discrete q p)
    (λ y. let none : s.owned q + s.parted q ≡ 0 = unless_busy (s.owned q + s.parted q) (w.states q) (λ z. may.other (ap w.states (sym y) ∙ z)) (r.pages q).busy in
    let e = owned_more q in let c = parted_same q in let d = stamped_same q in let one = where_same q p 1 y in
    let here : g q ≡ 1 = ap g y ∙ stored_here w.states p 1 in
    let blank : s.stamped q ≡ 0 = no_stamps vs q (omega arith) in
    record { once = omega arith; busy = λ _. here; past = omega arith })
    (λ n. page_same s t w.epoch q (stored_else w.states p 1 q n) (owned_same q n) (parted_same q) (stamped_same q) (r.pages q)))
    (each_gives (λ x. Each (HeldFits s x.pool.announced) (held_in x.tree.reached) × HoldsNot p x) (KeepsHeld s t w.epoch) vs
    (λ x f i q h. dite (ℕ_discrete q p)
    (λ y. absurd (f.1 i (h ∙ ap some y)))
    (λ n. page_kept s t w.epoch x.pool.announced q (stored_else w.states p 1 q n) (owned_same q n) (stamped_same q) (f.0 i q h)))
    (each_both _ _ vs r.held (not_held k w vs id loader p v seats r at may)))
    (states_kept w.states p 1 vs id v b (omega arith) r.states at refl)
    (let fits = counts_here k w vs id v r at in let few = may.few in let one : is_loader v.me.who ≡ 1 = ap is_loader may.who in record { linked = fits.linked; own = omega arith })
    (let more = stored_busier w.states p 1 k.pages in omega arith)

-- pages of the tree stay in it
take_linked : (k : Shape) (w : PoolWords) (vs : List View) (id loader q : ℕ) (v : View) → get_elem? vs id ≡ some v → MayTakePage k v.me loader q (w.states q)
    → (x : ℕ) → IsLinked (sheet_of w.states vs) x → IsLinked (sheet_of (stored w.states q 1) (set vs id (with_me v (after_page v.me q)))) x
take_linked k w vs id loader q v at may x l =
    let b : Account = after_page v.me q in
    let s : Sheet = sheet_of w.states vs in
    let t : Sheet = sheet_of (stored w.states q 1) (set vs id (with_me v b)) in
    let other : x ≢ q = λ y. may.other (ap w.states (sym y) ∙ l.busy) in
    let sum : t.owned x + owns x v.me.pool.own ≡ s.owned x + (where_page x q 1 + owns x v.me.pool.own) = total_changed (λ y. owns x y.pool.own) vs id v b at in
    let z = where_other x q 1 other in let none = l.owned in
    record { busy = stored_else w.states q 1 x other ∙ l.busy; owned = omega arith; parted = total_same (λ y. parts x y.pool.parted) vs id v b at refl ∙ l.parted }

-- the same pages are linked: the page was free or retired, and is one's own now
take_tree : (k : Shape) (p : Parts) (h : List Event) (vs : List View) (id loader q : ℕ) (v : View) → Rule k p h vs → get_elem? vs id ≡ some v → MayTakePage k v.me loader q (p.pool.states q)
    → TreeRule k (stored p.pool.states q 1) p.pages (codes_in k p.regions) (IsOldRow k p.regions p.log.slots) (set vs id (with_me v (after_page v.me q)))
take_tree k p h vs id loader q v r at may =
    let b : Account = after_page v.me q in
    let g : ℕ → ℕ = stored p.pool.states q 1 in
    let s : Sheet = sheet_of p.pool.states vs in
    let t : Sheet = sheet_of g (set vs id (with_me v b)) in
    let parted_same : (x : ℕ) → t.parted x ≡ s.parted x = λ x. total_same (λ y. parts x y.pool.parted) vs id v b at refl in
    let owned_more : (x : ℕ) → t.owned x ≡ s.owned x + where_page x q 1 = λ x.
    let sum : t.owned x + owns x v.me.pool.own ≡ s.owned x + (where_page x q 1 + owns x v.me.pool.own) = total_changed (λ y. owns x y.pool.own) vs id v b at in omega arith in
    tree_stays k p h g vs id v b r at refl
    (take_linked k p.pool vs id loader q v at may)
    (λ x l. let e = owned_more x in let none = l.owned in
    let other : x ≢ q = λ y. let one = where_same x q 1 y in omega arith in let z = where_other x q 1 other in
    record { busy = sym (stored_else p.pool.states q 1 x other) ∙ l.busy; owned = omega arith; parted = sym (parted_same x) ∙ l.parted })

pub take_page : (k : Shape) (p : Parts) (h : List Event) (vs : List View) (id loader q : ℕ) (v : View) → Rule k p h vs → get_elem? vs id ≡ some v → MayTakePage k v.me loader q (p.pool.states q)
    → Rule k (record p { pool = record p.pool { states = stored p.pool.states q 1 } }) h (set vs id (with_me v (after_page v.me q)))
take_page k p h vs id loader q v r at may = by_pool k p (record p.pool { states = stored p.pool.states q 1 }) h vs id v (after_page v.me q) r at
    record { who = refl; log = refl; room = refl; entries = refl; shown = refl; heads = refl; facts = refl; codes = refl; marks = refl }
    (never_free p.pool.states q 1 (omega arith))
    (take_pool k p.pool vs id loader q v r.seats r.pool at may)
    (own_taken p.pages vs id q v r.own at)
    record { begun = refl; placed = refl }
    (pin_here p.log.front vs id v r.pins at)
    (take_linked k p.pool vs id loader q v at may)
    (take_tree k p h vs id loader q v r at may)

-- a page that was found changed is not free
changed_busy : (k : Shape) (w : PoolWords) (vs : List View) (id loader q x : ℕ) (v : View) → PoolRule k w vs → get_elem? vs id ≡ some v → MayTakePage k v.me loader q x → w.states q ≢ x → w.states q ≢ 0
changed_busy k w vs id loader q x v r at may other = dite (ℕ_discrete x 0)
    (λ z e. other (e ∙ sym z))
    (λ some_x. let (j, l, there, page, word) = may.seen in
    subst (λ (z : ℕ). w.states z ≢ 0) page ((mine (λ a. StatesStand w.states a.loads) vs id v at r.states).seen j l there (λ z. some_x (sym word ∙ z))))

pub page_allowed : (k : Shape) (slots id loader q x at_word : ℕ) (m : Mine) → at_word ≡ states_at k + (q - 1) → MayTakePage k m.0.me loader q x → Allows (Holds k) slots id m at_word (λ n. either (n == x) 1 n) (TakesPage q (step slots at_word x 1 none) m)
page_allowed k slots id loader q x at_word m is may s h _ at _ =
    let n : ℕ = get_or s.words at_word 0 in
    let p : Parts = parts_of k s.words in
    let same : p.pool.states q ≡ n = state_at k s.words q may.inside ∙ ap (λ (z : ℕ). get_or s.words z 0) (sym is) in
    dite (ℕ_discrete n x)
    (λ won. (
      with_me m.0 (after_page m.0.me q),
      keeps,
      tt,
      subst (λ b. Holds k (stepped s at_word (either b 1 n) id m.1 (with_me m.0 (after_page m.0.me q)) keeps)) (sym (eq-eqb n x won))
          (words_moved k s at_word 1 id m.1 m.0 (after_page m.0.me q) _ h (ap (λ (z : ℕ). parts_of k (set s.words z 1)) is ∙ put_state k s.words q 1 h.wide may.inside)
          (take_page k p (history_of k p) s.views id loader q m.0 h.rule at (subst (MayTakePage k m.0.me loader q) (sym (same ∙ won)) may))),
      record {
        won = λ _. refl;
        fresh = λ _. own_before k p.pool s.views id loader q m.0 h.rule.pool at (subst (MayTakePage k m.0.me loader q) (sym (same ∙ won)) may);
        lost = λ other. absurd (other won);
      },
    ))
    (λ lost. (
      with_me m.0 (after_lost m.0.me q n),
      keeps,
      tt,
      subst (λ b. Holds k (stepped s at_word (either b 1 n) id m.1 (with_me m.0 (after_lost m.0.me q n)) keeps)) (sym (ne_eqb n x lost))
          (still k s at_word id m.1 m.0 (after_lost m.0.me q n) h
          (subst (λ (z : ℕ). Rule k p (history_of k p) (set s.views id (with_me m.0 (after_lost m.0.me q z)))) same
          (lose_state k p (history_of k p) s.views id q m.0 h.rule at (changed_busy k p.pool s.views id loader q x m.0 h.rule.pool at may (λ e. lost (sym same ∙ e)))))),
      record { won = λ won. absurd (lost won); fresh = λ won. absurd (lost won); lost = λ _. refl },
    ))
