-- A code word that was 0 comes to show a code that its chain has not.
use Rattle.std.proofs.Common.{◌≡◌, ◌≢◌, ℕ, ◌+◌, ◌*◌, ◌-◌, ◌<◌, ◌≤◌, ◌⊎◌, Bool, true, false, List, [], ◌∷◌, ◌++◌, sym, ap, ◌∙◌, subst, arith, inl, inr, ⊎_elim}
use mathlib.Core.Logic.{dite}
use native.Mathlib.Decide.{ℕ_discrete}
use Rattle.board_core.specs.declared.tree.Way.{Way}
use Rattle.board_core.specs.declared.tree.Way.TheVariants.{More, Branch}
use Rattle.board_core.specs.Sheets.{Sheet}
use Rattle.board_core.specs.ClassTree.{Place, at_way, slot_at, page_room, Follows, PageStands, IsFrom, HasSlot, Tree}
use Rattle.board_core.specs.Turns.{IsPut}
use Rattle.board_core.specs.CodeIn.{MayCode}

module _ (w u : ℕ → ℕ → ℕ) (s : Sheet) (m : ℕ → Place) (codes : ℕ → List ℕ) (put : ℕ → Type 0) (q k c : ℕ)
    (t : Tree w s m codes put) (a : MayCode w s m q k c) (e : IsPut w u q (2 + 2 * k) c) where
  leaf_word : (p j : ℕ) → (m p).leaf ≡ true → u p j ≡ w p j
  leaf_word p j leaf = e.others p j (inl (λ y. let bad : true ≡ false = sym leaf ∙ (ap (λ x. (m x).leaf) y ∙ a.inner) in absurd cc))

  way_word : (p : ℕ) (way : Way) → u p (at_way way) ≡ w p (at_way way)
  way_word p More = e.others p 1 (inr (omega arith))
  way_word p (Branch j) = e.others p (3 + 2 * j) (inr (omega arith))

  -- codes that were not 0 stay
  code_word : (p j : ℕ) → w p (2 + 2 * j) ≢ 0 → u p (2 + 2 * j) ≡ w p (2 + 2 * j)
  code_word p j some_c = e.others p (2 + 2 * j) (dite (ℕ_discrete p q)
      (λ y. inr (λ z. let same : j ≡ k = omega arith in some_c ((λ i. w (y i) (2 + 2 * same i)) ∙ a.empty)))
      (λ y. inl y))

  follows : (p : ℕ) (P : Place) (way : Way) (R : Place) → Follows (w p) P way R → Follows (u p) P way R
  follows p P More R f = f
  follows p P (Branch j) R f = let x = code_word p j f.2 in (f.0, f.1, λ z. f.2 (sym x ∙ z), f.3 ∙ ap (λ n. P.path ++ n ∷ []) (sym x), f.4)

  pub back : (x p j : ℕ) → HasSlot u s m false x p j → ((p ≡ q) × (j ≡ k) × (x ≡ c)) ⊎ HasSlot w s m false x p j
  back x p j h = dite (ℕ_discrete p q)
      (λ y. dite (ℕ_discrete j k)
      (λ z. inl (y, z, sym h.there ∙ ((λ i. u (y i) (2 + 2 * z i)) ∙ e.here)))
      (λ z. inr record { linked = h.linked; kind = h.kind; room = h.room; some_n = h.some_n; there = sym (e.others p (2 + 2 * j) (inr (λ o. z (omega arith)))) ∙ h.there }))
      (λ y. inr record { linked = h.linked; kind = h.kind; room = h.room; some_n = h.some_n; there = sym (e.others p (2 + 2 * j) (inl y)) ∙ h.there })

  leaf_back : (x p j : ℕ) → HasSlot u s m true x p j → HasSlot w s m true x p j
  leaf_back x p j h = record { linked = h.linked; kind = h.kind; room = h.room; some_n = h.some_n; there = sym (leaf_word p (2 + j) h.kind) ∙ h.there }

  page_new : PageStands (u q) (m q)
  page_new =
      let old = t.pages q a.linked in
      let front : (i j : ℕ) → i ≤ j → j < 7 → w q (2 + 2 * i) ≡ 0 → w q (2 + 2 * j) ≡ 0 =
      subst (λ (x : Bool). (i j : ℕ) → i ≤ j → j < page_room x → w q (slot_at x i) ≡ 0 → w q (slot_at x j) ≡ 0) a.inner old.front in
      let full : w q 1 ≢ 0 → (i : ℕ) → i < 7 → w q (2 + 2 * i) ≢ 0 =
      subst (λ (x : Bool). w q 1 ≢ 0 → (i : ℕ) → i < page_room x → w q (slot_at x i) ≢ 0) a.inner old.full in
      let more : u q 1 ≡ w q 1 = e.others q 1 (inr (omega arith)) in
      let word : (i : ℕ) → i ≢ k → u q (2 + 2 * i) ≡ w q (2 + 2 * i) = λ i o. e.others q (2 + 2 * i) (inr (λ y. o (omega arith))) in
      let is_new : (i : ℕ) → i ≡ k → u q (2 + 2 * i) ≡ c = λ i y. ap (λ x. u q (2 + 2 * x)) y ∙ e.here in
      let new_front : (i j : ℕ) → i ≤ j → j < 7 → u q (2 + 2 * i) ≡ 0 → u q (2 + 2 * j) ≡ 0 = λ i j le room none.
      let other : i ≢ k = λ y. a.code (sym (is_new i y) ∙ none) in
      let was : w q (2 + 2 * i) ≡ 0 = sym (word i other) ∙ none in
      dite (ℕ_discrete (k - i) 0)
      (λ y. let far : j ≢ k = λ z. other (omega arith) in word j far ∙ front i j le room was)
      (λ y. absurd (a.front i (omega arith) was)) in record {
        header = e.others q 0 (inr (omega arith)) ∙ old.header;
        front = subst (λ (x : Bool). (i j : ℕ) → i ≤ j → j < page_room x → u q (slot_at x i) ≡ 0 → u q (slot_at x j) ≡ 0) (sym a.inner) new_front;
        bare = λ inner i room none. let other : i ≢ k = λ y. a.code (sym (is_new i y) ∙ none) in e.others q (3 + 2 * i) (inr (omega arith)) ∙ old.bare inner i room (sym (word i other) ∙ none);
        full = λ h. absurd (full (λ y. h (more ∙ y)) k a.room a.empty);
        low = λ leaf _. let bad : true ≡ false = sym leaf ∙ a.inner in absurd cc;
        shallow = old.shallow;
      }

  pub codes_in : Tree u s m codes put
  codes_in = record {
    root = t.root;
    top = t.top;
    numbered = t.numbered;
    pages = λ p l. dite (ℕ_discrete p q) (λ y. subst (λ (x : ℕ). PageStands (u x) (m x)) (sym y) page_new)
        (λ y. subst (λ (h : ℕ → ℕ). PageStands h (m p)) (λ i j. sym (e.others p j (inl y)) i) (t.pages p l));
    named = λ p l below. let h = t.named p l below in record { linked = h.linked; there = way_word (m p).from (m p).way ∙ h.there; follows = follows (m p).from (m (m p).from) (m p).way (m p) h.follows };
    leads = λ p way l h some_n. let x = way_word p way in subst (λ (y : ℕ). IsFrom s m p way y) (sym x) (t.leads p way l h (λ y. some_n (x ∙ y)));
    alone = t.alone;
    apart = λ x p o i j f g path. ⊎_elim
        (λ (y : (p ≡ q) × (i ≡ k) × (x ≡ c)). ⊎_elim
        (λ (d : (o ≡ q) × (j ≡ k) × (x ≡ c)). (y.0 ∙ sym d.0, y.1 ∙ sym d.1))
        (λ (d : HasSlot w s m false x o j). absurd (a.absent o j (subst (λ (n : ℕ). HasSlot w s m false n o j) y.2 d) (sym path ∙ λ b. (m (y.0 b)).path))) (back x o j g))
        (λ (y : HasSlot w s m false x p i). ⊎_elim
        (λ (d : (o ≡ q) × (j ≡ k) × (x ≡ c)). absurd (a.absent p i (subst (λ (n : ℕ). HasSlot w s m false n p i) d.2 y) (path ∙ λ b. (m (d.0 b)).path)))
        (λ (d : HasSlot w s m false x o j). t.apart x p o i j y d path) (back x o j g))
        (back x p i f);
    rows = λ x p o i j f g. t.rows x p o i j (leaf_back x p i f) (leaf_back x o j g);
    entries = λ x p i f. t.entries x p i (leaf_back x p i f);
    placed = λ x h. let st = t.placed x h in let f = st.2 in (st.0, st.1, record { linked = f.linked; kind = f.kind; room = f.room; some_n = f.some_n; there = leaf_word st.0 (2 + st.1) f.kind ∙ f.there });
  }
