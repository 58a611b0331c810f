-- A word of an own page is stored: nobody else knows the page, and it is no page of the tree.
use Rattle.std.proofs.Common.{◌≡◌, ℕ, zero, suc, ◌+◌, ◌*◌, ◌<◌, ◌≤◌, Bool, true, false, cond, eqb, List, [], ◌∷◌, take, length, set, sym, refl, ap, ◌∙◌, subst, arith, inl, inr, ⊎_elim, eq-eqb, ne_eqb}
use mathlib.Core.Option.{some, none, some-injective, some-ne-none}
use mathlib.Core.Logic.{dite}
use native.Mathlib.Decide.{ℕ_discrete}
use lib.ListN.{get_elem?}
use Rattle.atomic_table.specs.Table.{step, keeps, Allows}
use Rattle.htss_defs.specs.declared.shape.Shape.{Shape}
use Rattle.htss_defs.specs.declared.history.Event.{Event}
use Rattle.board_core.specs.declared.account.Account.{Account}
use Rattle.board_core.specs.declared.account.View.{View}
use Rattle.board_core.specs.declared.pool.Own.{Own}
use Rattle.board_core.specs.declared.tree.TreeAccount.{TreeAccount}
use Rattle.board_core.specs.Each.{Each}
use Rattle.board_core.specs.Words.{Parts, PoolWords, parts_of, stored_page}
use Rattle.board_core.specs.Histories.{history_of}
use Rattle.board_core.specs.Accounts.{with_me, total}
use Rattle.board_core.specs.Held.{held_in}
use Rattle.board_core.specs.HeldRule.{HeldFits}
use Rattle.board_core.specs.Sheets.{Sheet, sheet_of, IsLinked, where_page, owns, parts}
use Rattle.board_core.specs.PoolRule.{PoolRule}
use Rattle.board_core.specs.OwnRule.{OwnFits, OwnRule}
use Rattle.board_core.specs.Rows.{codes_in, IsBegun, IsPlaced}
use Rattle.board_core.specs.Turns.{IsPut}
use Rattle.board_core.specs.ClassTree.{Place}
use Rattle.board_core.specs.KnownPages.{AreKept}
use Rattle.board_core.specs.KnownRule.{Knows}
use Rattle.board_core.specs.OldRows.{IsOldRow}
use Rattle.board_core.specs.TreeRule.{TreeRule}
use Rattle.board_core.specs.Loaded.{page_word}
use Rattle.board_core.specs.Holds.{Rule, Holds}
use Rattle.board_core.specs.After.{with_word, put_if, put_own, after_own}
use Rattle.board_core.specs.Steps.{Mine, MayStoreOwn, StoresOwn}
use Rattle.board_core.proofs.Lists.{at_end}
use Rattle.board_core.proofs.Everyone.{mine, moved, at_most, total_same}
use Rattle.board_core.proofs.PoolFrame.{each_both}
use Rattle.board_core.proofs.PoolTree.{pool_stored}
use Rattle.board_core.proofs.RowFrame.{rows_same}
use Rattle.board_core.proofs.Kept.{kept_same}
use Rattle.board_core.proofs.TreeStays.{tree_same, known_same, lasts_same}
use Rattle.board_core.proofs.TreeFrame.{rows_stay, placed_split}
use Rattle.board_core.proofs.Linked.{put_is, own_kept, held_free, unreached}
use Rattle.board_core.proofs.Stepped.{words_moved}
use Rattle.board_core.proofs.Treed.{by_tree, put_page}
use Rattle.board_core.specs.Rows.{HasRow}
use Rattle.board_core.proofs.Pooled.{linked_kept}

-- ---- the list of own pages

page_if : (b : Bool) (i n : ℕ) (o : Own) → (cond b (with_word i n o) o).page ≡ o.page
page_if true i n o = refl
page_if false i n o = refl

pub owns_put : (p i n q : ℕ) (os : List Own) → owns q (put_own p i n os) ≡ owns q os
owns_put p i n q [] = refl
owns_put p i n q (o ∷ os) = let rest = owns_put p i n q os in let page : where_page q (put_if p i n o).page 1 ≡ where_page q o.page 1 = ap (λ x. where_page q x 1) (page_if (eqb p o.page) i n o) in omega arith

pub length_put : (p i n : ℕ) (os : List Own) → length (put_own p i n os) ≡ length os
length_put p i n [] = refl
length_put p i n (o ∷ os) = ap suc (length_put p i n os)

at_put : (p i n : ℕ) (os : List Own) (j : ℕ) (x : Own) → get_elem? (put_own p i n os) j ≡ some x → (o : Own) × (get_elem? os j ≡ some o) × (put_if p i n o ≡ x)
at_put p i n [] j x e = absurd (some-ne-none x (sym e))
at_put p i n (o ∷ os) zero x e = (o, refl, some-injective (put_if p i n o) x e)
at_put p i n (o ∷ os) (suc j) x e = at_put p i n os j x e

at_take : (l : List ℕ) (i a x : ℕ) → get_elem? (take i l) a ≡ some x → (a < i) × (get_elem? l a ≡ some x)
at_take [] zero a x e = absurd (some-ne-none x (sym e))
at_take [] (suc i) a x e = absurd (some-ne-none x (sym e))
at_take (y ∷ l) zero a x e = absurd (some-ne-none x (sym e))
at_take (y ∷ l) (suc i) zero x e = (omega arith, e)
at_take (y ∷ l) (suc i) (suc a) x e = let h = at_take l i a x e in let less = h.0 in (omega arith, h.1)

length_take : (l : List ℕ) (i : ℕ) → i ≤ length l → length (take i l) ≡ i
length_take l zero most = refl
length_take [] (suc i) most = absurd (omega arith)
length_take (y ∷ l) (suc i) most = ap suc (length_take l i (omega arith))

-- what is stored in own pages stands
word_fits : (w u : ℕ → ℕ → ℕ) (p i n : ℕ) (o : Own) → IsPut w u p i n → (o.page ≡ p → i ≤ length o.words) → OwnFits w o → OwnFits u (put_if p i n o)
word_fits w u p i n o e before f = dite (ℕ_discrete p o.page)
    (λ here. subst (λ (b : Bool). OwnFits u (cond b (with_word i n o) o)) (sym (eq-eqb p o.page here)) record {
      words = λ a x there. ⊎_elim
          (λ (t : get_elem? (take i o.words) a ≡ some x). let h = at_take o.words i a x t in let less = h.0 in e.others o.page a (inr (λ z. omega arith)) ∙ f.words a x h.1)
          (λ (t : (a ≡ length (take i o.words)) × (n ≡ x)). let long : length (take i o.words) ≡ i = length_take o.words i (before (sym here)) in
          (λ j. u (sym here j) ((t.0 ∙ long) j)) ∙ (e.here ∙ t.1))
          (at_end (take i o.words) n x a there);
    })
    (λ other. subst (λ (b : Bool). OwnFits u (cond b (with_word i n o) o)) (sym (ne_eqb p o.page other)) record { words = λ a x there. e.others o.page a (inl (λ z. other (sym z))) ∙ f.words a x there })

put_fits : (w u : ℕ → ℕ → ℕ) (p i n : ℕ) (os : List Own) → IsPut w u p i n → Each (λ o. o.page ≡ p → i ≤ length o.words) os → Each (OwnFits w) os → Each (OwnFits u) (put_own p i n os)
put_fits w u p i n os e before all j x there = let h = at_put p i n os j x there in subst (OwnFits u) h.2 (word_fits w u p i n h.0 e (before j h.0 h.1) (all j h.0 h.1))

-- ---- the tree

-- what anybody knows, where no page that it reached changed
knows_stored : (w u : ℕ → ℕ → ℕ) (s z : Sheet) (m : ℕ → Place) (c : ℕ → List ℕ) (placed places : ℕ → Type 0) (old : ℕ → ℕ → Type 0) → ((p : ℕ) → IsLinked s p → IsLinked z p) → ((p : ℕ) → IsLinked z p → IsLinked s p) → ((p i : ℕ) → IsLinked s p → u p i ≡ w p i)
    → ((r : ℕ) → placed r → places r) → (t : TreeAccount) → Each (λ x. (i : ℕ) → u x.page i ≡ w x.page i) t.reached → Knows w s m c placed old t → Knows u z m c places old t
knows_stored w u s z m c placed places old more less word plus t words k = record {
  known = known_same w u s z m c placed places more less word (old t.front) t.reached (λ r o. (k.olds r o).1) words k.known;
  kept = λ j x there leaf. ⊎_elim (λ (l : IsLinked s x.page). inl (more x.page l)) (λ (a : AreKept (w x.page) c placed x.path). inr (kept_same (w x.page) (u x.page) c placed places x.path plus (λ i _. words j x there (2 + i)) a)) (k.kept j x there leaf);
  pairs = k.pairs;
  olds = λ r o. let d = k.olds r o in (plus r d.0, d.1);
  lasts = lasts_same s z m m more (λ p l. refl) t.lasting k.lasts;
}

stored_tree : (k : Shape) (pool : PoolWords) (w u : ℕ → ℕ → ℕ) (c : ℕ → List ℕ) (old : ℕ → ℕ → Type 0) (vs : List View) (id q i n : ℕ) (v : View) (b : Account) → TreeRule k pool.states w c old vs → PoolRule k pool vs → get_elem? vs id ≡ some v
    → ((p : ℕ) → owns p b.pool.own ≡ owns p v.me.pool.own) → b.pool.parted ≡ v.me.pool.parted → b.tree ≡ v.me.tree → 0 < owns q v.me.pool.own → IsPut w u q i n → TreeRule k pool.states u c old (set vs id (with_me v b))
stored_tree k pool w u c old vs id q i n v b r rules at own parted tree mine_q e =
    let ws : List View = set vs id (with_me v b) in
    let s : Sheet = sheet_of pool.states vs in
    let z : Sheet = sheet_of pool.states ws in
    let owned_same : (p : ℕ) → z.owned p ≡ s.owned p = λ p. total_same (λ x. owns p x.pool.own) vs id v b at (own p) in
    let parted_same : (p : ℕ) → z.parted p ≡ s.parted p = λ p. total_same (λ x. parts p x.pool.parted) vs id v b at (ap (parts p) parted) in
    let some_own : 0 < s.owned q = (let part = at_most (λ x. owns q x.pool.own) vs id v at in omega arith) in
    let more : (p : ℕ) → IsLinked s p → IsLinked z p = λ p l. record { busy = l.busy; owned = owned_same p ∙ l.owned; parted = parted_same p ∙ l.parted } in
    let less : (p : ℕ) → IsLinked z p → IsLinked s p = λ p l. record { busy = l.busy; owned = sym (owned_same p) ∙ l.owned; parted = sym (parted_same p) ∙ l.parted } in
    let word : (p j : ℕ) → IsLinked s p → u p j ≡ w p j = λ p j l. e.others p j (inl (λ y. let none : s.owned q ≡ 0 = ap s.owned (sym y) ∙ l.owned in omega arith)) in
    let plus : (x : ℕ) → IsPlaced vs x → IsPlaced ws x = rows_stay vs id v b at (λ x. x.tree.placed) (ap (λ (t : TreeAccount). t.placed) tree) in
    let minus : (x : ℕ) → IsPlaced ws x → IsPlaced vs x = λ x h. ⊎_elim (λ (t : IsPlaced vs x). t) (λ (t : HasRow x b.tree.placed). (id, v, at, 0, v.me, refl, subst (λ (l : TreeAccount). HasRow x l.placed) tree t)) (placed_split vs id v b at x h) in
    let begun : (x : ℕ) → IsBegun vs x → IsBegun ws x = rows_stay vs id v b at (λ x. x.tree.begun) (ap (λ (t : TreeAccount). t.begun) tree) in
    let one : (x : Account) → Knows w s r.place c (IsPlaced vs) old x.tree → Each (HeldFits s x.pool.announced) (held_in x.tree.reached) → Knows u z r.place c (IsPlaced ws) old x.tree = λ x h held.
    knows_stored w u s z r.place c (IsPlaced vs) (IsPlaced ws) old more less word plus x.tree
    (λ j y there t. e.others y.page t (inl (unreached s q some_own y (h.known.fits j y there).inner (held_free s x.pool.announced x.tree.reached held j y there) y.leaf refl))) h in record {
      place = r.place;
      tree = tree_same w u s z r.place c (IsPlaced vs) (IsPlaced ws) more less word plus minus r.tree;
      ranks = λ p l. r.ranks p (less p l);
      begun = λ x p j h. let l = less p h.linked in let d = r.begun x p j record { linked = l; kind = h.kind; room = h.room; some_n = h.some_n; there = sym (word p (2 + 2 * j) l) ∙ h.there } in (d.0, begun d.0 d.1, d.2);
      known = moved (λ x. Knows w s r.place c (IsPlaced vs) old x.tree × Each (HeldFits s x.pool.announced) (held_in x.tree.reached)) (λ x. Knows u z r.place c (IsPlaced ws) old x.tree) vs id v b at
          (subst (λ (t : TreeAccount). Knows u z r.place c (IsPlaced ws) old t) (sym tree) (one v.me (mine (λ x. Knows w s r.place c (IsPlaced vs) old x.tree) vs id v at r.known) (mine (λ x. Each (HeldFits s x.pool.announced) (held_in x.tree.reached)) vs id v at rules.held)))
          (λ x _ f. one x f.0 f.1) (each_both _ _ vs r.known rules.held);
    }

-- ---- the law

own_stored : (k : Shape) (pool : PoolWords) (w : ℕ → ℕ → ℕ) (vs : List View) (id q i n : ℕ) (v : View) → OwnRule w vs → PoolRule k pool vs → get_elem? vs id ≡ some v → MayStoreOwn k v.me q i → OwnRule (stored_page w q i n) (set vs id (with_me v (after_own v.me q i n)))
own_stored k pool w vs id q i n v r rules at may =
    let once = (rules.pages q).once in
    let mine_q = may.own in
    moved (λ x. Each (OwnFits w) x.pool.own) (λ x. Each (OwnFits (stored_page w q i n)) x.pool.own) vs id v (after_own v.me q i n) at
    (put_fits w (stored_page w q i n) q i n v.me.pool.own (put_is w q i n) may.before (mine (λ x. Each (OwnFits w) x.pool.own) vs id v at r))
    (λ x other f. own_kept w (stored_page w q i n) q i n x.pool.own (put_is w q i n) (let both = other (λ y. owns q y.pool.own) in let s : ℕ = (sheet_of pool.states vs).owned q in let most : (sheet_of pool.states vs).owned q + (sheet_of pool.states vs).parted q ≤ 1 = once in omega arith) f) r

pub store_own : (k : Shape) (p : Parts) (h : List Event) (vs : List View) (id q i n : ℕ) (v : View) → Rule k p h vs → get_elem? vs id ≡ some v → MayStoreOwn k v.me q i
    → Rule k (record p { pages = stored_page p.pages q i n }) h (set vs id (with_me v (after_own v.me q i n)))
store_own k p h vs id q i n v r at may =
    let a : Account = after_own v.me q i n in
    let same : (x : ℕ) → owns x a.pool.own ≡ owns x v.me.pool.own = λ x. owns_put q i n x v.me.pool.own in
    by_tree k p (stored_page p.pages q i n) h vs id v a r at
    record { who = refl; log = refl; room = refl; entries = refl; shown = refl; heads = refl; facts = refl; codes = refl; marks = refl } (λ q h. h) refl
    (pool_stored k p.pool vs id v a.pool.own r.pool at same (length_put q i n v.me.pool.own))
    (own_stored k p.pool p.pages vs id q i n v r.own r.pool at may)
    (rows_same k vs id v a r.rows at refl refl refl refl refl)
    record {
      linked = λ y l. inl (linked_kept p.pool.states vs id v a at same (λ _. refl) y l);
      words = λ y t l _. inl ((put_is p.pages q i n).others y t (inl (λ e. let own = may.own in let part = at_most (λ x. owns q x.pool.own) vs id v at in let none_here : total (λ x. owns q x.pool.own) vs ≡ 0 = ap (λ (x : ℕ). total (λ b. owns x b.pool.own) vs) (sym e) ∙ l.owned in omega arith)));
    }
    (stored_tree k p.pool p.pages (stored_page p.pages q i n) (codes_in k p.regions) (IsOldRow k p.regions p.log.slots) vs id q i n v a r.tree r.pool at same refl refl may.own (put_is p.pages q i n))

pub own_allowed : (k : Shape) (slots id q i n at_word : ℕ) (m : Mine) → at_word ≡ page_word k q i → MayStoreOwn k m.0.me q i → Allows (Holds k) slots id m at_word (λ _. n) (λ _. StoresOwn q i (step slots at_word n 0 none) m 0)
own_allowed k slots id q i n at_word m is may s h _ at _ = let p : Parts = parts_of k s.words in (
  with_me m.0 (after_own m.0.me q i n),
  keeps,
  tt,
  words_moved k s at_word n id m.1 m.0 (after_own m.0.me q i n) _ h (ap (λ (z : ℕ). parts_of k (set s.words z n)) is ∙ put_page k s.words q i n h.wide may.inside may.small)
      (store_own k p (history_of k p) s.views id q i n m.0 h.rule at may),
  refl,
)
