-- An unlinked page is retired with the stamp that was loaded for it.
use Rattle.std.proofs.Common.{◌≡◌, ◌≢◌, ℕ, ◌+◌, ◌-◌, ◌<◌, ◌≤◌, List, set, sym, refl, ap, ◌∙◌, subst, arith, inl}
use mathlib.Core.Option.{some, none}
use mathlib.Core.Logic.{dite}
use native.Mathlib.Decide.{ℕ_discrete}
use lib.ListN.{get_elem?}
use Rattle.atomic_table.specs.Table.{step, keeps, Allows}
use Rattle.htss_defs.specs.declared.shape.Shape.{Shape}
use Rattle.htss_defs.specs.declared.history.Event.{Event}
use Rattle.board_core.specs.declared.account.Account.{Account}
use Rattle.board_core.specs.declared.account.View.{View}
use Rattle.board_core.specs.Each.{Each}
use Rattle.board_core.specs.Words.{Parts, PoolWords, parts_of, states_at, stored}
use Rattle.board_core.specs.Histories.{history_of}
use Rattle.board_core.specs.Accounts.{with_me}
use Rattle.board_core.specs.Held.{held_in}
use Rattle.board_core.specs.Sheets.{Sheet, sheet_of, stamp_of, owns, parts, stamps}
use Rattle.board_core.specs.PageRule.{PageFits}
use Rattle.board_core.specs.HeldRule.{HeldFits}
use Rattle.board_core.specs.PoolRule.{PoolRule}
use Rattle.board_core.specs.Holds.{Rule, Holds}
use Rattle.board_core.specs.After.{after_retire}
use Rattle.board_core.specs.Steps.{Mine, MayRetire, Retires}
use Rattle.board_core.proofs.Everyone.{at_most, total_same, total_changed}
use Rattle.board_core.proofs.PageSums.{no_stamp, no_stamps, only_total, without_here, without_else}
use Rattle.board_core.proofs.PoolFrame.{Keeps, KeepsHeld, each_gives, pool_claimed, counts_here}
use Rattle.board_core.proofs.Stepped.{words_moved}
use Rattle.board_core.proofs.Stored.{stored_here, stored_else}
use Rattle.board_core.proofs.OwnFrame.{own_same}
use Rattle.board_core.proofs.Pooled.{tree_stays, by_pool, put_state}
use Rattle.board_core.proofs.TakePage.{page_same, page_kept, never_free, states_kept}
use Rattle.board_core.specs.Sheets.{IsLinked}
use Rattle.board_core.specs.Rows.{codes_in}
use Rattle.board_core.specs.OldRows.{IsOldRow}
use Rattle.board_core.specs.TreeRule.{TreeRule}
use Rattle.board_core.proofs.OldMoved.{pin_here}
use Rattle.board_core.proofs.CountFrame.{no_busier, busy_some}
use Rattle.board_core.specs.CountRule.{busy}

-- ---- whose the page is

-- this account's alone, unlinked with this stamp, which is of an epoch that has come
pub record IsOnes (epoch : ℕ) (s : Sheet) (a : Account) (p n : ℕ) : Type 0 where
  pub above : 0 < n
  pub past : n ≤ epoch
  pub owned : s.owned p ≡ 0
  pub parted : s.parted p ≡ parts p a.pool.parted
  pub one : s.parted p ≡ 1
  pub stamp : s.stamped p ≡ n

ones : (k : Shape) (w : PoolWords) (vs : List View) (id p n : ℕ) (v : View) → PoolRule k w vs → get_elem? vs id ≡ some v → MayRetire k v.me p n → IsOnes w.epoch (sheet_of w.states vs) v.me p n
ones k w vs id p n v r at may =
    let s : Sheet = sheet_of w.states vs in
    let fits = r.pages p in
    let once : s.owned p + s.parted p ≤ 1 = fits.once in
    let part : parts p v.me.pool.parted ≤ s.parted p = at_most (λ x. parts p x.pool.parted) vs id v at in
    let (above, some_here, stamp) = may.parted in
    let all : s.stamped p ≡ stamps p v.me.pool.parted = only_total (λ y. parts p y.pool.parted) (λ y. stamps p y.pool.parted) (λ y. no_stamp p y.pool.parted) refl vs id v at (omega arith) in
    let total_n : s.stamped p ≡ n = all ∙ stamp in
    let past : stamp_of s p ≤ w.epoch = fits.past in
    record { above = above; past = omega arith; owned = omega arith; parted = omega arith; one = omega arith; stamp = total_n }

-- ---- the law

pub retire_pool : (k : Shape) (w : PoolWords) (vs : List View) (id p n : ℕ) (v : View) → PoolRule k w vs → get_elem? vs id ≡ some v → MayRetire k v.me p n
    → PoolRule k (record w { states = stored w.states p (n + 1) }) (set vs id (with_me v (after_retire v.me p)))
retire_pool k w vs id p n v r at may =
    let a : Account = v.me in
    let b : Account = after_retire a p in
    let g : ℕ → ℕ = stored w.states p (n + 1) in
    let s : Sheet = sheet_of w.states vs in
    let t : Sheet = sheet_of g (set vs id (with_me v b)) in
    let is = ones k w vs id p n v r at may in
    let above = is.above in
    let past = is.past in
    let parted_set : t.parted p + parts p a.pool.parted ≡ s.parted p + parts p b.pool.parted = total_changed (λ x. parts p x.pool.parted) vs id v b at in
    let part_gone : parts p b.pool.parted ≡ 0 = without_here (λ u. u.page) p a.pool.parted in
    let all_parted = is.parted in
    let owned_gone : t.owned p ≡ 0 = total_same (λ x. owns p x.pool.own) vs id v b at refl ∙ is.owned in
    let parted_gone : t.parted p ≡ 0 = omega arith in
    let stamped_gone : t.stamped p ≡ 0 = no_stamps (set vs id (with_me v b)) p parted_gone in
    let state : g p ≡ n + 1 = stored_here w.states p (n + 1) in
    let owned_same : (q : ℕ) → q ≢ p → t.owned q ≡ s.owned q = λ q m. total_same (λ x. owns q x.pool.own) vs id v b at refl in
    let parted_same : (q : ℕ) → q ≢ p → t.parted q ≡ s.parted q = λ q m. total_same (λ x. parts q x.pool.parted) vs id v b at (without_else (λ u. u.page) (λ _. 1) p q (λ z. m (sym z)) a.pool.parted) in
    let stamped_same : (q : ℕ) → q ≢ p → t.stamped q ≡ s.stamped q = λ q m. total_same (λ x. stamps q x.pool.parted) vs id v b at (without_else (λ u. u.page) (λ u. u.stamp) p q (λ z. m (sym z)) a.pool.parted) in
    let page : PageFits w.epoch t p = record { once = omega arith; busy = λ h. absurd (omega arith); past = omega arith } in
    -- a page that is held is nobody's own, so it is unlinked and has its stamp
    let kept : (m : ℕ) → HeldFits s m p → Keeps s t w.epoch p = λ m fits.
    let none : s.owned p ≡ 0 = fits.owned in
    let sum : s.parted p ≡ 1 = is.one in
    let before : s.stamped p ≡ n = is.stamp in
    let one : w.states p ≡ 1 = (r.pages p).busy (omega arith) in
    record { busy = omega arith; owned = owned_gone; later = inl (omega arith) } in
    pool_claimed k w vs id v r at g b refl refl
    (λ q. dite (ℕ_discrete q p)
    (λ y. subst (λ (x : ℕ). PageFits w.epoch t x) (sym y) page)
    (λ m. page_same s t w.epoch q (stored_else w.states p (n + 1) q m) (owned_same q m) (parted_same q m) (stamped_same q m) (r.pages q)))
    (each_gives (λ x. Each (HeldFits s x.pool.announced) (held_in x.tree.reached)) (KeepsHeld s t w.epoch) vs
    (λ x f i q h. dite (ℕ_discrete q p)
    (λ y. subst (λ (z : ℕ). Keeps s t w.epoch z) (sym y) (kept x.pool.announced (subst (HeldFits s x.pool.announced) y (f i q h))))
    (λ m. page_kept s t w.epoch x.pool.announced q (stored_else w.states p (n + 1) q m) (owned_same q m) (stamped_same q m) (f i q h)))
    r.held)
    (states_kept w.states p (n + 1) vs id v b (omega arith) r.states at refl)
    (let fits = counts_here k w vs id v r at in record { linked = fits.linked; own = fits.own })
    (let as_many = no_busier w.states (stored w.states p (n + 1)) (λ q. dite (ℕ_discrete q p)
    (λ y. let some_now = busy_some (stored w.states p (n + 1) q) (never_free w.states p (n + 1) (omega arith) q (λ z. let sum : s.parted p ≡ 1 = is.one in let one : w.states p ≡ 1 = (r.pages p).busy (omega arith) in let e : w.states q ≡ w.states p = ap w.states y in omega arith)) in
    let sum : s.parted p ≡ 1 = is.one in let one : w.states p ≡ 1 = (r.pages p).busy (omega arith) in let before : busy (w.states q) ≡ 1 = ap busy (ap w.states y ∙ one) in omega arith)
    (λ m. let e : busy (stored w.states p (n + 1) q) ≡ busy (w.states q) = ap busy (stored_else w.states p (n + 1) q m) in omega arith)) k.pages in omega arith)

-- pages of the tree stay in it
retire_linked : (k : Shape) (w : PoolWords) (vs : List View) (id q n : ℕ) (v : View) → PoolRule k w vs → get_elem? vs id ≡ some v → MayRetire k v.me q n
    → (x : ℕ) → IsLinked (sheet_of w.states vs) x → IsLinked (sheet_of (stored w.states q (n + 1)) (set vs id (with_me v (after_retire v.me q)))) x
retire_linked k w vs id q n v r at may x l =
    let a : Account = v.me in
    let b : Account = after_retire a q in
    let s : Sheet = sheet_of w.states vs in
    let is = ones k w vs id q n v r at may in
    let other : x ≢ q = λ y. let lq : IsLinked s q = subst (λ (z : ℕ). IsLinked s z) y l in let none : s.parted q ≡ 0 = lq.parted in let one : s.parted q ≡ 1 = is.one in omega arith in
    record {
      busy = stored_else w.states q (n + 1) x other ∙ l.busy;
      owned = total_same (λ y. owns x y.pool.own) vs id v b at refl ∙ l.owned;
      parted = total_same (λ y. parts x y.pool.parted) vs id v b at (without_else (λ u. u.page) (λ _. 1) q x (λ z. other (sym z)) a.pool.parted) ∙ l.parted;
    }

-- the same pages are linked: the page was unlinked, and has a stamp now
retire_tree : (k : Shape) (p : Parts) (h : List Event) (vs : List View) (id q n : ℕ) (v : View) → Rule k p h vs → get_elem? vs id ≡ some v → MayRetire k v.me q n
    → TreeRule k (stored p.pool.states q (n + 1)) p.pages (codes_in k p.regions) (IsOldRow k p.regions p.log.slots) (set vs id (with_me v (after_retire v.me q)))
retire_tree k p h vs id q n v r at may =
    let a : Account = v.me in
    let b : Account = after_retire a q in
    let g : ℕ → ℕ = stored p.pool.states q (n + 1) in
    let s : Sheet = sheet_of p.pool.states vs in
    let t : Sheet = sheet_of g (set vs id (with_me v b)) in
    let is = ones k p.pool vs id q n v r.pool at may in
    let above = is.above in
    let owned_same : (x : ℕ) → x ≢ q → t.owned x ≡ s.owned x = λ x m. total_same (λ y. owns x y.pool.own) vs id v b at refl in
    let parted_same : (x : ℕ) → x ≢ q → t.parted x ≡ s.parted x = λ x m. total_same (λ y. parts x y.pool.parted) vs id v b at (without_else (λ u. u.page) (λ _. 1) q x (λ z. m (sym z)) a.pool.parted) in
    tree_stays k p h g vs id v b r at refl
    (retire_linked k p.pool vs id q n v r.pool at may)
    (λ x l. let other : x ≢ q = λ y. let word : g q ≡ n + 1 = stored_here p.pool.states q (n + 1) in let one : g q ≡ 1 = ap g (sym y) ∙ l.busy in omega arith in
    record { busy = sym (stored_else p.pool.states q (n + 1) x other) ∙ l.busy; owned = sym (owned_same x other) ∙ l.owned; parted = sym (parted_same x other) ∙ l.parted })

pub retire_page : (k : Shape) (p : Parts) (h : List Event) (vs : List View) (id q n : ℕ) (v : View) → Rule k p h vs → get_elem? vs id ≡ some v → MayRetire k v.me q n
    → Rule k (record p { pool = record p.pool { states = stored p.pool.states q (n + 1) } }) h (set vs id (with_me v (after_retire v.me q)))
retire_page k p h vs id q n v r at may = by_pool k p (record p.pool { states = stored p.pool.states q (n + 1) }) h vs id v (after_retire v.me q) r at
    record { who = refl; log = refl; room = refl; entries = refl; shown = refl; heads = refl; facts = refl; codes = refl; marks = refl }
    (never_free p.pool.states q (n + 1) (omega arith))
    (retire_pool k p.pool vs id q n v r.pool at may)
    (own_same p.pages vs id v (after_retire v.me q) r.own at refl)
    record { begun = refl; placed = refl }
    (pin_here p.log.front vs id v r.pins at)
    (retire_linked k p.pool vs id q n v r.pool at may)
    (retire_tree k p h vs id q n v r at may)

pub retire_allowed : (k : Shape) (slots id q n at_word : ℕ) (m : Mine) → at_word ≡ states_at k + (q - 1) → MayRetire k m.0.me q n → Allows (Holds k) slots id m at_word (λ _. n + 1) (λ _. Retires q (step slots at_word (n + 1) 0 none) m 0)
retire_allowed k slots id q n at_word m is may s h _ at _ = let p : Parts = parts_of k s.words in (
  with_me m.0 (after_retire m.0.me q),
  keeps,
  tt,
  words_moved k s at_word (n + 1) id m.1 m.0 (after_retire m.0.me q) _ h (ap (λ (z : ℕ). parts_of k (set s.words z (n + 1))) is ∙ put_state k s.words q (n + 1) h.wide may.inside)
      (retire_page k p (history_of k p) s.views id q n m.0 h.rule at may),
  refl,
)
