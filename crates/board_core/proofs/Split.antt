-- The exchange that unlinks a leaf: the tree's part, and what each caller knows.
use Rattle.std.proofs.Common.{◌≡◌, ◌≢◌, ℕ, ◌+◌, ◌*◌, ◌<◌, ◌⊎◌, Bool, true, false, List, [], ◌∷◌, ◌++◌, length, sym, refl, ap, ◌∙◌, subst, arith, inl, inr, ⊎_elim, length-append}
use mathlib.Core.Option.{some}
use mathlib.Core.Logic.{dite}
use native.Mathlib.Decide.{ℕ_discrete}
use lib.ListN.{get_elem?}
use Rattle.board_core.specs.declared.tree.Way.{Way}
use Rattle.board_core.specs.declared.tree.Way.TheVariants.{More, Branch}
use Rattle.board_core.specs.declared.tree.Reached.{Reached}
use Rattle.board_core.specs.Each.{Each}
use Rattle.board_core.specs.Sheets.{Sheet, IsLinked}
use Rattle.board_core.specs.ClassTree.{Place, chained, at_way, slot_at, header_of, Follows, PageStands, IsNamed, IsFrom, HasSlot, Stands, IsBelow, Tree}
use Rattle.board_core.specs.KnownPages.{IsFullLeaf, KnowsPages, AreKept}
use Rattle.board_core.specs.Turns.{IsPut, Turns}
use Rattle.board_core.specs.Split.{NewHasSlot, MaySplit}
use Rattle.board_core.proofs.Walk.{chain_back, one_kind, above, append_split, row_home}
use Rattle.board_core.proofs.Graft.{Grafts, grafted}
use Rattle.board_core.proofs.KnownSteps.{Stays, known_words}
use Rattle.board_core.proofs.PageLoads.{branch_path}
use Rattle.board_core.proofs.Kept.{kept_words}

append_nil : (xs : List ℕ) → xs ++ [] ≡ xs
append_nil [] = refl
append_nil (x ∷ xs) = ap (λ ys. x ∷ ys) (append_nil xs)

nil_of : (xs : List ℕ) → length xs ≡ 0 → xs ≡ []
nil_of [] e = refl
nil_of (x ∷ xs) e = absurd (omega arith)

pub is_low : (n : ℕ) → n < 5 → n < chained
unfolding chained
is_low n h = h

leaf_more : (page : ℕ → ℕ) (P : Place) (way : Way) (R : Place) → P.leaf ≡ true → Follows page P way R → way ≡ More
leaf_more page P More R e f = refl
leaf_more page P (Branch k) R e f = let clash : true ≡ false = sym e ∙ f.0 in absurd cc

module _ (w u : ℕ → ℕ → ℕ) (s z : Sheet) (m v : ℕ → Place) (codes : ℕ → List ℕ) (put : ℕ → Type 0) (New : ℕ → Type 0) (q k L first : ℕ)
    (t : Tree w s m codes put) (c : MaySplit w s m v codes New q k L first) (e : IsPut w u q (3 + 2 * k) first) (r : Turns s z New L) (same : (p : ℕ) → IsLinked s p → v p ≡ m p) where
  some_leaf : L ≢ 0
  some_leaf = t.numbered L c.leaf

  from_link : IsFrom s m q (Branch k) L
  from_link = subst (λ (x : ℕ). IsFrom s m q (Branch k) x) c.there (t.leads q (Branch k) c.inner (c.kind, c.room) (λ n. some_leaf (sym c.there ∙ n)))

  pub leaf_place : (w q (2 + 2 * k) ≢ 0) × ((m L).path ≡ (m q).path ++ w q (2 + 2 * k) ∷ []) × ((m L).rank ≡ 0)
  leaf_place = branch_path (w q) (m q) (m L).way (m L) k from_link.by (subst (λ (x : ℕ). Follows (w x) (m x) (m L).way (m L)) from_link.from (t.named L c.leaf from_link.below).follows)

  low_depth : length (m L).path < chained
  low_depth = is_low (length (m L).path) c.low

  pub no_more : w L 1 ≡ 0
  no_more = (t.pages L c.leaf).low c.old low_depth

  not_linked : (p : ℕ) → New p → IsLinked s p → ⊥
  not_linked p n l = let own = r.own p n in let none = l.owned in absurd (omega arith)

  -- no other linked page stands at or below the leaf's path
  clash : (p : ℕ) → IsLinked s p → p ≢ L → IsBelow (m L).path (m p).path → ⊥
  clash p l other b =
      let long : length (m p).path ≡ length (m L).path + length b.0 = ap length b.1 ∙ length-append (m L).path b.0 in
      dite (ℕ_discrete (length b.0) 0)
      (λ y. let path : (m p).path ≡ (m L).path = b.1 ∙ (ap (λ x. (m L).path ++ x) (nil_of b.0 y) ∙ append_nil (m L).path) in
      let a = chain_back w s m codes put t (m p).rank p l refl 0 (omega arith) in
      let first_page : a.0 ≡ L = t.alone a.0 L a.1.linked c.leaf (a.1.path ∙ path) (a.1.rank ∙ sym leaf_place.2) in
      dite (ℕ_discrete (m p).rank 0)
      (λ n. other (t.alone p L l c.leaf path (n ∙ sym leaf_place.2)))
      (λ n. a.1.more (omega arith) (ap (λ x. w x 1) first_page ∙ no_more)))
      (λ y. let a = above w s m codes put t (length (m p).path) p l refl (length (m L).path) (omega arith) in let h = a.3 in
      let path = (append_split (m a.0).path (m L).path _ b.0 h.depth (sym h.path ∙ b.1)).0 in
      let bad : false ≡ true = sym h.kind ∙ (one_kind w s m codes put t a.0 L h.linked c.leaf path ∙ c.old) in absurd cc)

  new_word : (p i : ℕ) → New p → u p i ≡ w p i
  new_word p i n = e.others p i (inl (λ y. not_linked p n (subst (λ (x : ℕ). IsLinked s x) (sym y) c.inner)))

  new_page : (p : ℕ) → New p → (i : ℕ) → w p i ≡ u p i
  new_page p n i = sym (new_word p i n)

  pages_new : (p : ℕ) → New p → PageStands (u p) (v p)
  pages_new p n = subst (λ (h : ℕ → ℕ). PageStands h (v p)) (λ j i. new_page p n i j) (c.pages p n)

  parent : PageStands (u q) (m q)
  parent =
      let old = t.pages q c.inner in
      let slot : (i : ℕ) → u q (2 + 2 * i) ≡ w q (2 + 2 * i) = λ i. e.others q (2 + 2 * i) (inr (omega arith)) in
      let slots : (i : ℕ) → u q (slot_at (m q).leaf i) ≡ w q (slot_at (m q).leaf i) = λ i. subst (λ (b : Bool). u q (slot_at b i) ≡ w q (slot_at b i)) (sym c.kind) (slot i) in
      let more : u q 1 ≡ w q 1 = e.others q 1 (inr (omega arith)) in record {
        header = e.others q 0 (inr (omega arith)) ∙ old.header;
        front = λ i j le room none. slots j ∙ old.front i j le room (sym (slots i) ∙ none);
        bare = λ inner i room none. dite (ℕ_discrete i k)
            (λ y. absurd (leaf_place.0 (ap (λ x. w q (2 + 2 * x)) (sym y) ∙ (sym (slot i) ∙ none))))
            (λ y. e.others q (3 + 2 * i) (inr (λ h. y (omega arith))) ∙ old.bare inner i room (sym (slot i) ∙ none));
        full = λ h i room none. old.full (λ y. h (more ∙ y)) i room (sym (slots i) ∙ none);
        low = λ leaf _. let bad : true ≡ false = sym leaf ∙ c.kind in absurd cc;
        shallow = old.shallow;
      }

  to_new : (b : Bool) (n p i : ℕ) → New p → HasSlot u z v b n p i → NewHasSlot w v New b n p i
  to_new b n p i h a = record { new = h; kind = a.kind; room = a.room; some_n = a.some_n; there = new_page p h (slot_at b i) ∙ a.there }

  from_new : (b : Bool) (n p i : ℕ) → NewHasSlot w v New b n p i → HasSlot u z v b n p i
  from_new b n p i a = record { linked = r.comes p a.new; kind = a.kind; room = a.room; some_n = a.some_n; there = new_word p (slot_at b i) a.new ∙ a.there }

  path_clash : (p o : ℕ) → New p → IsLinked s o → o ≢ L → (v p).path ≡ (v o).path → ⊥
  path_clash p o n l other path = let b = c.below p n in clash o l other (b.0, sym (ap (λ (x : Place). x.path) (same o l)) ∙ (sym path ∙ b.1))

  head_named : (p : ℕ) → p ≡ first → IsNamed u z v p
  head_named p y = subst (λ (x : ℕ). IsNamed u z v x) (sym y)
      (let h = c.head in
      let linked : IsLinked z q = r.stays q c.inner (λ x. let bad : false ≡ true = sym c.kind ∙ (ap (λ i. (m i).leaf) x ∙ c.old) in absurd cc) in
      let code : u q (2 + 2 * k) ≡ w q (2 + 2 * k) = e.others q (2 + 2 * k) (inr (omega arith)) in
      let path : (v first).path ≡ (v q).path ++ u q (2 + 2 * k) ∷ [] = h.3 ∙ (leaf_place.1 ∙ λ i. (sym (same q c.inner) i).path ++ sym code i ∷ []) in
      let f : Follows (u q) (v q) (Branch k) (v first) = (ap (λ (x : Place). x.leaf) (same q c.inner) ∙ c.kind, c.room, λ n. leaf_place.0 (sym code ∙ n), path, h.4) in record {
        linked = subst (λ (x : ℕ). IsLinked z x) (sym h.1) linked;
        there = (λ i. u (h.1 i) (at_way (h.2 i))) ∙ e.here;
        follows = subst (λ (a : ℕ × Way). Follows (u a.0) (v a.0) a.1 (v first)) (λ i. (sym h.1 i, sym h.2 i)) f;
      })

  new_named : (p : ℕ) → New p → IsNamed u z v p
  new_named p n = dite (ℕ_discrete p first) (head_named p)
      (λ y. let h = c.named p n y in let f : ℕ = (v p).from in record {
        linked = r.comes f h.0;
        there = new_word f (at_way (v p).way) h.0 ∙ h.1;
        follows = subst (λ (g : ℕ → ℕ). Follows g (v f) (v p).way (v p)) (λ j i. new_page f h.0 i j) h.2;
      })

  split_grafts : Grafts w u s z m v codes put put q (Branch k) L New
  split_grafts = record {
    linked = c.inner;
    is_way = (c.kind, c.room);
    was = c.there;
    new = subst New (sym e.here) c.head.0;
    words = λ p i l o. e.others p i o;
    stays = r.stays;
    comes = λ p n. let h = c.numbered p n in (r.comes p n, h.0, h.1);
    either = r.either;
    places = same;
    last = λ p l below y. let h = t.named p l below in
        let way = leaf_more (w (m p).from) (m (m p).from) (m p).way (m p) (ap (λ x. (m x).leaf) y ∙ c.old) h.follows in
        t.numbered p l (sym h.there ∙ ((λ i. w (y i) (at_way (way i))) ∙ no_more));
    inner = λ y. let bad : true ≡ false = sym c.old ∙ (ap (λ i. (m i).leaf) y ∙ c.kind) in absurd cc;
    root = λ y. let bad : false ≡ true = sym (ap (λ (x : Place). x.leaf) t.top) ∙ (ap (λ i. (m i).leaf) y ∙ c.old) in absurd cc;
    page = parent;
    pages = pages_new;
    first = (ap (λ x. (v x).from) e.here ∙ c.head.1, ap (λ x. (v x).way) e.here ∙ c.head.2);
    named = new_named;
    leads = λ p to n way some_n. let x = new_word p (at_way to) n in let h = c.leads p to n way (λ y. some_n (x ∙ y)) in
        (subst New (sym x) h.0, ap (λ i. (v i).from) x ∙ h.1, ap (λ i. (v i).way) x ∙ h.2);
    alone = λ p o n l path rank. ⊎_elim (λ (a : IsLinked s o × (o ≢ L)). absurd (path_clash p o n a.0 a.1 path)) (λ (a : New o). c.alone p o n a path rank) (r.either o l);
    apart = λ n p o i j h a b path. ⊎_elim (λ (d : IsLinked s o × (o ≢ L)). absurd (path_clash p o h d.0 d.1 path)) (λ (d : New o). c.apart n p o i j (to_new false n p i h a) (to_new false n o j d b) path) (r.either o b.linked);
    rows = λ n p o i j h a b. ⊎_elim
        (λ (d : IsLinked s o × (o ≢ L)).
        let g = (c.entries n p i (to_new true n p i h a)).0 in
        let kind : (m o).leaf ≡ true = ap (λ (x : Place). x.leaf) (sym (same o d.0)) ∙ b.kind in
        let word : u o (2 + j) ≡ w o (2 + j) = e.others o (2 + j) (inl (λ y. let bad : true ≡ false = sym kind ∙ (ap (λ x. (m x).leaf) y ∙ c.kind) in absurd cc)) in
        let there : w o (2 + j) ≡ n = sym word ∙ b.there in
        absurd (d.1 (t.rows n o L j g.0 record { linked = d.0; kind = kind; room = b.room; some_n = b.some_n; there = there } record { linked = c.leaf; kind = c.old; room = g.1; some_n = b.some_n; there = g.2 }).0))
        (λ (d : New o). c.rows n p o i j (to_new true n p i h a) (to_new true n o j d b)) (r.either o b.linked);
    entries = λ n p i h a. let g = c.entries n p i (to_new true n p i h a) in
        ((t.entries n L g.0.0 record { linked = c.leaf; kind = c.old; room = g.0.1; some_n = a.some_n; there = g.0.2 }).0, g.1);
    more = λ n h. h;
    placed = λ n h. (
      λ p i a. dite (ℕ_discrete p L)
          (λ y. let b = c.keeps n i a.room (ap (λ x. w x (2 + i)) (sym y) ∙ a.there) in inr (b.0, b.1, from_new true n b.0 b.1 b.2))
          (λ y. inl y),
      inl h,
    );
  }

  -- the tree after the exchange
  pub splits : Tree u z v codes put
  splits = grafted w u s z m v codes put put q (Branch k) L New t split_grafts

  module _ (old : ℕ → Type 0) (stands : (n : ℕ) → old n → Stands w s m n × (n ≢ 0)) (rs : List Reached) (h : KnowsPages w s m codes old rs) (free : Each (λ x. x.leaf ≡ true → s.owned x.page ≡ 0) rs) where
    not_new : (b : Bool) (j : ℕ) (x : Reached) → get_elem? rs j ≡ some x → x.leaf ≡ b → New x.page → ⊥
    not_new true j x there y n = let own = r.own x.page n in let none = free j x there y in absurd (omega arith)
    not_new false j x there y n = not_linked x.page n ((h.fits j x there).inner y)

    not_parent : (j : ℕ) (x : Reached) → get_elem? rs j ≡ some x → x.leaf ≡ true → x.page ≢ q
    not_parent j x there y o = let l : IsLinked s x.page = subst (λ (p : ℕ). IsLinked s p) (sym o) c.inner in
        let bad : true ≡ false = sym y ∙ (ap (λ (p : Place). p.leaf) (sym ((h.fits j x there).place l)) ∙ (ap (λ p. (m p).leaf) o ∙ c.kind)) in absurd cc

    word_same : (b : Bool) (j : ℕ) (x : Reached) → get_elem? rs j ≡ some x → x.leaf ≡ b → (i : ℕ) → u x.page (slot_at b i) ≡ w x.page (slot_at b i)
    word_same false j x there y i = e.others x.page (2 + 2 * i) (inr (omega arith))
    word_same true j x there y i = e.others x.page (2 + i) (inl (not_parent j x there y))

    pub split_stays : Each (Stays w u s z m v) rs
    split_stays = λ j x there. let f = h.fits j x there in record {
      inner = λ y l. r.stays x.page l (λ o. let bad : false ≡ true = sym y ∙ (ap (λ (p : Place). p.leaf) (sym (f.place l)) ∙ (ap (λ p. (m p).leaf) o ∙ c.old)) in absurd cc);
      place = λ l. ⊎_elim (λ (a : IsLinked s x.page × (x.page ≢ L)). (a.0, same x.page a.0)) (λ (a : New x.page). absurd (not_new x.leaf j x there refl a)) (r.either x.page l);
      slots = λ i n _ y. word_same x.leaf j x there refl i ∙ y;
      more = λ p _. e.others x.page 1 (inr (omega arith));
      old = λ y l. dite (ℕ_discrete x.page L)
          (λ o. let place = f.place l in
          let path : (m L).path ≡ x.path = ap (λ p. (m p).path) (sym o) ∙ ap (λ (p : Place). p.path) place in
          let rank : (m L).rank ≡ x.rank = ap (λ p. (m p).rank) (sym o) ∙ ap (λ (p : Place). p.rank) place in
          let word : (i : ℕ) → u x.page i ≡ w L i = λ i. e.others x.page i (inl (λ g. let bad : true ≡ false = sym c.old ∙ (ap (λ p. (m p).leaf) (sym o ∙ g) ∙ c.kind) in absurd cc)) ∙ ap (λ p. w p i) o in
          let low = low_depth in
          let depth : length (m L).path ≡ length x.path = ap length path in
          let header : w L 0 ≡ 1 + 4 * length (m L).path + 32 * (m L).rank = (t.pages L c.leaf).header ∙ ap (λ (b : Bool). header_of record { path = (m L).path; rank = (m L).rank; leaf = b; from = (m L).from; way = (m L).way }) c.old in
          let none = leaf_place.2 in
          let top = word 0 in
          inr record { low = omega arith; rank = sym rank ∙ leaf_place.2; header = omega arith; more = word 1 ∙ no_more; full = λ i room g. c.full i room (sym (word (2 + i)) ∙ g) })
          (λ o. inl (r.stays x.page l o));
      turned = λ y h first_page. let a = h first_page in dite (ℕ_discrete a.0 L)
          (λ o. (first, r.comes first c.head.0, c.head.3 ∙ (ap (λ p. (m p).path) (sym o) ∙ a.2), c.head.4, inr c.inner_first))
          (λ o. let e = same a.0 a.1 in
          (a.0, r.stays a.0 a.1 o, ap (λ (p : Place). p.path) e ∙ a.2, ap (λ (p : Place). p.rank) e ∙ a.3, ⊎_elim (λ (g : a.0 ≡ x.page). inl g) (λ (g : (m a.0).leaf ≡ false). inr (ap (λ (p : Place). p.leaf) e ∙ g)) a.4));
      still = λ y o. let word : (i : ℕ) → w x.page i ≡ u x.page i = λ i. sym (e.others x.page i (inl (not_parent j x there y))) in inr (subst (λ (g : ℕ → ℕ). IsFullLeaf g x) (λ a i. word i a) o);
    }

    -- what anybody knows after it
    pub split_known : KnowsPages u z v codes old rs
    split_known = known_words w u s z m v codes old rs h split_stays
        (λ j x there y l n o b. dite (ℕ_discrete x.page L)
        (λ g. let place = (h.fits j x there).place l in
        let st = (stands n o).0 in
        let home = row_home w s m codes put t x.page n l (ap (λ (p : Place). p.leaf) place ∙ y) st (b.0, b.1 ∙ ap (λ (p : Place). p.path ++ b.0) (sym place)) in
        let here : st.0 ≡ L = dite (ℕ_discrete st.0 L) (λ a. a) (λ a. absurd (clash st.0 st.2.linked a ([], home ∙ (ap (λ p. (m p).path) g ∙ sym (append_nil (m L).path))))) in
        inr (st.1, st.2.room, subst (λ (c2 : Bool). u x.page (slot_at c2 st.1) ≡ w x.page (slot_at c2 st.1)) y (word_same x.leaf j x there refl st.1) ∙ (ap (λ p. w p (2 + st.1)) (g ∙ sym here) ∙ st.2.there)))
        (λ g. inl (r.stays x.page l g)))
        (λ n o. (stands n o).1)

    -- a leaf keeps its entries where it leaves the tree
    pub split_kept : Each (λ x. x.leaf ≡ true → IsLinked s x.page ⊎ AreKept (w x.page) codes put x.path) rs → Each (λ x. x.leaf ≡ true → IsLinked z x.page ⊎ AreKept (u x.page) codes put x.path) rs
    split_kept kept = kept_words w u s z m v codes put put old rs t h (λ n g. g) split_stays
        (λ j x there y l. dite (ℕ_discrete x.page L) (λ g. inr (word_same true j x there y)) (λ g. inl (r.stays x.page l g))) kept
