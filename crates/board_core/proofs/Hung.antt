-- A link that was 0 comes to show a new leaf with one entry.
use Rattle.std.proofs.Common.{◌≡◌, ◌≢◌, ℕ, ◌+◌, ◌*◌, Bool, true, false, List, [], ◌∷◌, ◌++◌, length, sym, refl, ap, ◌∙◌, subst, arith, inl, inr, ⊎_elim, length-append}
use mathlib.Core.Logic.{dite}
use native.Mathlib.Decide.{ℕ_discrete}
use Rattle.board_core.specs.declared.tree.Way.{Way}
use Rattle.board_core.specs.declared.tree.Way.TheVariants.{More, Branch}
use Rattle.board_core.specs.Sheets.{Sheet, IsLinked}
use Rattle.board_core.specs.ClassTree.{Place, at_way, slot_at, Follows, IsWay, PageStands, IsNamed, HasSlot, IsBelow, Tree}
use Rattle.board_core.specs.Turns.{IsPut, Turns}
use Rattle.board_core.specs.Fill.{IsOneMore}
use Rattle.board_core.specs.Hang.{hung, MayHang}
use Rattle.board_core.proofs.Walk.{above, append_split}
use Rattle.board_core.proofs.Graft.{Grafts, grafted}

head_of : (x y : ℕ) (xs ys : List ℕ) → x ∷ xs ≡ y ∷ ys → x ≡ y
head_of x y xs ys e = cc

module _ (w u : ℕ → ℕ → ℕ) (s z : Sheet) (m v : ℕ → Place) (codes : ℕ → List ℕ) (put puts : ℕ → Type 0) (New : ℕ → Type 0) (q k n r : ℕ)
    (t : Tree w s m codes put) (c : MayHang w s m codes put q k n r) (e : IsPut w u q (3 + 2 * k) n) (turn : Turns s z New 0) (one : (p : ℕ) → New p → p ≡ n) (new : New n)
    (same : (p : ℕ) → IsLinked s p → v p ≡ m p) (place : v n ≡ hung w m q k) (rows : IsOneMore put puts r) where
  not_linked : IsLinked s n → ⊥
  not_linked l = let own = turn.own n new in let none = l.owned in absurd (omega arith)

  kept_word : (i : ℕ) → u n i ≡ w n i
  kept_word i = e.others n i (inl (λ y. not_linked (subst (λ (x : ℕ). IsLinked s x) (sym y) c.inner)))

  page_new : PageStands (u n) (v n)
  page_new = subst (λ (P : Place). PageStands (u n) P) (sym place)
      (subst (λ (g : ℕ → ℕ). PageStands g (hung w m q k)) (λ j i. sym (kept_word i) j) record {
        header = c.fresh.header;
        front = λ i j le room none. dite (ℕ_discrete i 0)
            (λ y. absurd (c.row (sym c.fresh.entry ∙ (ap (λ a. w n (2 + a)) (sym y) ∙ none))))
            (λ y. c.fresh.rest (2 + j) (omega arith) (omega arith));
        bare = λ inner. absurd cc;
        full = λ h. absurd (h (c.fresh.rest 1 (omega arith) (omega arith)));
        low = λ _ _. c.fresh.rest 1 (omega arith) (omega arith);
        shallow = λ inner. absurd cc;
      })

  -- no linked page stands where the new one will
  clash : (p : ℕ) → IsLinked s p → (m p).path ≡ (m q).path ++ w q (2 + 2 * k) ∷ [] → ⊥
  clash p l path =
      let long : length (m p).path ≡ length (m q).path + 1 = ap length path ∙ length-append (m q).path (w q (2 + 2 * k) ∷ []) in
      let a = above w s m codes put t (length (m p).path) p l refl (length (m q).path) (omega arith) in let h = a.3 in
      let two = append_split (m a.0).path (m q).path _ (w q (2 + 2 * k) ∷ []) h.depth (sym h.path ∙ path) in
      let code : w a.0 (2 + 2 * a.1) ≡ w q (2 + 2 * k) = head_of _ _ _ _ two.1 in
      let there = t.apart (w q (2 + 2 * k)) a.0 q a.1 k record { linked = h.linked; kind = h.kind; room = h.room; some_n = c.code; there = code } record { linked = c.inner; kind = c.kind; room = c.room; some_n = c.code; there = refl } two.0 in
      h.link ((λ i. w (there.0 i) (3 + 2 * there.1 i)) ∙ c.empty)

  path_clash : (p o : ℕ) → New p → IsLinked s o → (v p).path ≡ (v o).path → ⊥
  path_clash p o h l path = clash o l ((λ i. (sym (same o l) i).path) ∙ (sym path ∙ ((λ i. (v (one p h i)).path) ∙ λ i. (place i).path)))

  leaf_new : (v n).leaf ≡ true
  leaf_new = ap (λ (P : Place). P.leaf) place

  -- the new page shows its row alone
  shows_new : (x p i : ℕ) → New p → HasSlot u z v true x p i → (x ≡ r) × (i ≡ 0)
  shows_new x p i h a = let word : u n (2 + i) ≡ x = ap (λ b. u b (2 + i)) (sym (one p h)) ∙ a.there in
      dite (ℕ_discrete i 0)
      (λ y. (sym word ∙ (kept_word (2 + i) ∙ (ap (λ b. w n (2 + b)) y ∙ c.fresh.entry)), y))
      (λ y. absurd (a.some_n (sym word ∙ (kept_word (2 + i) ∙ c.fresh.rest (2 + i) (omega arith) (omega arith)))))

  parent : PageStands (u q) (m q)
  parent =
      let old = t.pages q c.inner in
      let slot : (i : ℕ) → u q (2 + 2 * i) ≡ w q (2 + 2 * i) = λ i. e.others q (2 + 2 * i) (inr (omega arith)) in
      let slots : (i : ℕ) → u q (slot_at (m q).leaf i) ≡ w q (slot_at (m q).leaf i) = λ i. subst (λ (b : Bool). u q (slot_at b i) ≡ w q (slot_at b i)) (sym c.kind) (slot i) in
      let more : u q 1 ≡ w q 1 = e.others q 1 (inr (omega arith)) in record {
        header = e.others q 0 (inr (omega arith)) ∙ old.header;
        front = λ i j le room none. slots j ∙ old.front i j le room (sym (slots i) ∙ none);
        bare = λ inner i room none. dite (ℕ_discrete i k)
            (λ y. absurd (c.code (ap (λ x. w q (2 + 2 * x)) (sym y) ∙ (sym (slot i) ∙ none))))
            (λ y. e.others q (3 + 2 * i) (inr (λ h. y (omega arith))) ∙ old.bare inner i room (sym (slot i) ∙ none));
        full = λ h i room none. old.full (λ y. h (more ∙ y)) i room (sym (slots i) ∙ none);
        low = λ leaf _. let bad : true ≡ false = sym leaf ∙ c.kind in absurd cc;
        shallow = old.shallow;
      }

  named_new : IsNamed u z v n
  named_new =
      let linked : IsLinked z q = turn.stays q c.inner (λ y. t.numbered q c.inner y) in
      let code : u q (2 + 2 * k) ≡ w q (2 + 2 * k) = e.others q (2 + 2 * k) (inr (omega arith)) in
      let f : Follows (u q) (v q) (Branch k) (hung w m q k) = (ap (λ (x : Place). x.leaf) (same q c.inner) ∙ c.kind, c.room, λ y. c.code (sym code ∙ y), (λ i. (sym (same q c.inner) i).path ++ sym code i ∷ []), refl) in record {
        linked = subst (λ (P : Place). IsLinked z P.from) (sym place) linked;
        there = ap (λ (P : Place). u P.from (at_way P.way)) place ∙ e.here;
        follows = subst (λ (P : Place). Follows (u P.from) (v P.from) P.way P) (sym place) f;
      }

  no_ways : (to : Way) → IsWay (v n) to → u n (at_way to) ≡ 0
  no_ways More h = kept_word 1 ∙ c.fresh.rest 1 (omega arith) (omega arith)
  no_ways (Branch i) h = let bad : true ≡ false = sym leaf_new ∙ h.0 in absurd cc

  hang_grafts : Grafts w u s z m v codes put puts q (Branch k) 0 New
  hang_grafts = record {
    linked = c.inner;
    is_way = (c.kind, c.room);
    was = c.empty;
    new = subst New (sym e.here) new;
    words = λ p i l o. e.others p i o;
    stays = turn.stays;
    comes = λ p h. (turn.comes p h, λ y. c.numbered.0 (sym (one p h) ∙ y), λ y. c.numbered.1 (sym (one p h) ∙ y));
    either = turn.either;
    places = same;
    last = λ p l below y. t.numbered (m p).from (t.named p l below).linked y;
    inner = λ y. t.numbered q c.inner (sym y);
    root = omega arith;
    page = parent;
    pages = λ p h. subst (λ (x : ℕ). PageStands (u x) (v x)) (sym (one p h)) page_new;
    first = ((λ i. (v (e.here i)).from) ∙ (λ i. (place i).from), (λ i. (v (e.here i)).way) ∙ (λ i. (place i).way));
    named = λ p h. subst (λ (x : ℕ). IsNamed u z v x) (sym (one p h)) named_new;
    leads = λ p to h way some_n. absurd (some_n ((λ i. u (one p h i) (at_way to)) ∙ no_ways to (subst (λ (x : ℕ). IsWay (v x) to) (one p h) way)));
    alone = λ p o h l path rank. ⊎_elim (λ (a : IsLinked s o × (o ≢ 0)). absurd (path_clash p o h a.0 path)) (λ (a : New o). one p h ∙ sym (one o a)) (turn.either o l);
    apart = λ x p o i j h a b path. let bad : true ≡ false = sym leaf_new ∙ ((λ i2. (v (sym (one p h) i2)).leaf) ∙ a.kind) in absurd cc;
    rows = λ x p o i j h a b. let d = shows_new x p i h a in ⊎_elim
        (λ (f : IsLinked s o × (o ≢ 0)).
        let kind : (m o).leaf ≡ true = (λ i2. (sym (same o f.0) i2).leaf) ∙ b.kind in
        let word : u o (2 + j) ≡ w o (2 + j) = e.others o (2 + j) (inl (λ y. let bad : true ≡ false = sym kind ∙ ((λ i2. (m (y i2)).leaf) ∙ c.kind) in absurd cc)) in
        absurd (c.other (subst put d.0 (t.entries x o j record { linked = f.0; kind = kind; room = b.room; some_n = b.some_n; there = sym word ∙ b.there }).0)))
        (λ (f : New o). let g = shows_new x o j f b in (one p h ∙ sym (one o f), d.1 ∙ sym g.1)) (turn.either o b.linked);
    entries = λ x p i h a. let d = shows_new x p i h a in (
      subst puts (sym d.0) rows.new,
      subst (λ (y : Place × ℕ). IsBelow y.0.path (codes y.1)) (λ i2. ((sym place ∙ λ i3. v (sym (one p h) i3)) i2, sym d.0 i2)) c.below,
    );
    more = rows.old;
    placed = λ x h. (
      λ p i a. inl (t.numbered p a.linked),
      ⊎_elim (λ (y : put x). inl y)
          (λ (y : x ≡ r). inr (n, 0, record { linked = turn.comes n new; kind = leaf_new; room = omega arith; some_n = λ o. c.row (sym y ∙ o); there = kept_word 2 ∙ (c.fresh.entry ∙ sym y) })) (rows.all x h),
    );
  }

  pub hangs : Tree u z v codes puts
  hangs = grafted w u s z m v codes put puts q (Branch k) 0 New t hang_grafts
