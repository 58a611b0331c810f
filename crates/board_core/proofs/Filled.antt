-- The tree part where an entry is exchanged for a row; and as the board is opened.
use Rattle.std.proofs.Common.{◌≡◌, ◌≢◌, ℕ, ◌+◌, ◌*◌, ◌-◌, ◌<◌, ◌≤◌, ◌⊎◌, Bool, true, false, List, [], sym, refl, ap, ◌∙◌, subst, arith, inl, inr, ⊎_elim}
use mathlib.Core.Logic.{dite}
use native.Mathlib.Decide.{ℕ_discrete}
use Rattle.board_core.specs.declared.tree.Way.{Way}
use Rattle.board_core.specs.declared.tree.Way.TheVariants.{More, Branch}
use Rattle.board_core.specs.Sheets.{Sheet, IsLinked}
use Rattle.board_core.specs.ClassTree.{Place, at_way, slot_at, page_room, IsWay, PageStands, IsFrom, HasSlot, IsBelow, Tree}
use Rattle.board_core.specs.Turns.{IsPut}
use Rattle.board_core.specs.Fill.{MayFill, IsOneMore}
use Rattle.board_core.proofs.Graft.{is_way, same_follows}

module _ (w u : ℕ → ℕ → ℕ) (s : Sheet) (m : ℕ → Place) (codes : ℕ → List ℕ) (put puts : ℕ → Type 0) (p i n : ℕ)
    (t : Tree w s m codes put) (c : MayFill w s m codes put p i n) (e : IsPut w u p (2 + i) n) (r : IsOneMore put puts n) where
  inner_word : (q j : ℕ) → (m q).leaf ≡ false → u q j ≡ w q j
  inner_word q j inner = e.others q j (inl (λ y. let bad : false ≡ true = sym inner ∙ (ap (λ x. (m x).leaf) y ∙ c.leaf) in absurd cc))

  way_word : (q : ℕ) (way : Way) → IsWay (m q) way → u q (at_way way) ≡ w q (at_way way)
  way_word q More h = e.others q 1 (inr (omega arith))
  way_word q (Branch k) h = inner_word q (3 + 2 * k) h.0

  -- another slot than the filled one
  back : (b : Bool) (x q j : ℕ) → HasSlot u s m b x q j → ((q ≡ p) × (j ≡ i) × (x ≡ n)) ⊎ HasSlot w s m b x q j
  back false x q j h = inr record { linked = h.linked; kind = h.kind; room = h.room; some_n = h.some_n; there = sym (inner_word q (2 + 2 * j) h.kind) ∙ h.there }
  back true x q j h = dite (ℕ_discrete q p)
      (λ y. dite (ℕ_discrete j i)
      (λ k. inl (y, k, sym h.there ∙ ((λ a. u (y a) (2 + k a)) ∙ e.here)))
      (λ k. inr record { linked = h.linked; kind = h.kind; room = h.room; some_n = h.some_n; there = sym (e.others q (2 + j) (inr (omega arith))) ∙ h.there }))
      (λ y. inr record { linked = h.linked; kind = h.kind; room = h.room; some_n = h.some_n; there = sym (e.others q (2 + j) (inl y)) ∙ h.there })

  inner_back : (x q j : ℕ) → HasSlot u s m false x q j → HasSlot w s m false x q j
  inner_back x q j h = record { linked = h.linked; kind = h.kind; room = h.room; some_n = h.some_n; there = sym (inner_word q (2 + 2 * j) h.kind) ∙ h.there }

  forth : (x q j : ℕ) → HasSlot w s m true x q j → HasSlot u s m true x q j
  forth x q j h = record {
    linked = h.linked;
    kind = h.kind;
    room = h.room;
    some_n = h.some_n;
    there = e.others q (2 + j) (dite (ℕ_discrete q p)
        (λ y. inr (λ k. let same : j ≡ i = omega arith in h.some_n (sym h.there ∙ ((λ a. w (y a) (2 + same a)) ∙ c.empty))))
        (λ y. inl y)) ∙ h.there;
  }

  filled_page : PageStands (u p) (m p)
  filled_page =
      let old = t.pages p c.linked in
      let front : (a b : ℕ) → a ≤ b → b < 14 → w p (2 + a) ≡ 0 → w p (2 + b) ≡ 0 =
      subst (λ (x : Bool). (a b : ℕ) → a ≤ b → b < page_room x → w p (slot_at x a) ≡ 0 → w p (slot_at x b) ≡ 0) c.leaf old.front in
      let full : w p 1 ≢ 0 → (a : ℕ) → a < 14 → w p (2 + a) ≢ 0 =
      subst (λ (x : Bool). w p 1 ≢ 0 → (a : ℕ) → a < page_room x → w p (slot_at x a) ≢ 0) c.leaf old.full in
      let more : u p 1 ≡ w p 1 = e.others p 1 (inr (omega arith)) in
      let word : (a : ℕ) → a ≢ i → u p (2 + a) ≡ w p (2 + a) = λ a o. e.others p (2 + a) (inr (λ y. o (omega arith))) in
      let new_front : (a b : ℕ) → a ≤ b → b < 14 → u p (2 + a) ≡ 0 → u p (2 + b) ≡ 0 = λ a b le room none.
      let other : a ≢ i = λ y. c.row (sym e.here ∙ (ap (λ x. u p (2 + x)) (sym y) ∙ none)) in
      let was : w p (2 + a) ≡ 0 = sym (word a other) ∙ none in
      dite (ℕ_discrete (i - a) 0)
      (λ y. let far : b ≢ i = λ z. other (omega arith) in word b far ∙ front a b le room was)
      (λ y. absurd (c.front a (omega arith) was)) in record {
        header = e.others p 0 (inr (omega arith)) ∙ old.header;
        front = subst (λ (x : Bool). (a b : ℕ) → a ≤ b → b < page_room x → u p (slot_at x a) ≡ 0 → u p (slot_at x b) ≡ 0) (sym c.leaf) new_front;
        bare = λ inner. let bad : false ≡ true = sym inner ∙ c.leaf in absurd cc;
        full = λ h. absurd (full (λ y. h (more ∙ y)) i c.room c.empty);
        low = λ leaf depth. more ∙ old.low leaf depth;
        shallow = old.shallow;
      }

  -- the tree where an entry is filled
  pub fills : Tree u s m codes puts
  fills = record {
    root = t.root;
    top = t.top;
    numbered = t.numbered;
    pages = λ q l. dite (ℕ_discrete q p) (λ y. subst (λ (x : ℕ). PageStands (u x) (m x)) (sym y) filled_page)
        (λ y. let old = t.pages q l in let word : (j : ℕ) → w q j ≡ u q j = λ j. sym (e.others q j (inl y)) in subst (λ (h : ℕ → ℕ). PageStands h (m q)) (λ a j. word j a) old);
    named = λ q l below. let h = t.named q l below in let f : ℕ = (m q).from in record {
      linked = h.linked;
      there = way_word f (m q).way (is_way (w f) (m f) (m q).way (m q) h.follows) ∙ h.there;
      follows = same_follows (w f) (u f) (m f) (m q).way (m q) (λ k inner. inner_word f (2 + 2 * k) inner) h.follows;
    };
    leads = λ q way l h some_n. let x = way_word q way h in subst (λ (y : ℕ). IsFrom s m q way y) (sym x) (t.leads q way l h (λ y. some_n (x ∙ y)));
    alone = t.alone;
    apart = λ x a b j k f g path. t.apart x a b j k (inner_back x a j f) (inner_back x b k g) path;
    rows = λ x a b j k f g. ⊎_elim
        (λ (y : (a ≡ p) × (j ≡ i) × (x ≡ n)). ⊎_elim
        (λ (d : (b ≡ p) × (k ≡ i) × (x ≡ n)). (y.0 ∙ sym d.0, y.1 ∙ sym d.1))
        (λ (d : HasSlot w s m true x b k). absurd (c.other (subst put y.2 (t.entries x b k d).0))) (back true x b k g))
        (λ (y : HasSlot w s m true x a j). ⊎_elim
        (λ (d : (b ≡ p) × (k ≡ i) × (x ≡ n)). absurd (c.other (subst put d.2 (t.entries x a j y).0)))
        (λ (d : HasSlot w s m true x b k). t.rows x a b j k y d) (back true x b k g))
        (back true x a j f);
    entries = λ x a j f. ⊎_elim
        (λ (y : (a ≡ p) × (j ≡ i) × (x ≡ n)). (subst puts (sym y.2) r.new, subst (λ (z : ℕ × ℕ). IsBelow (m z.0).path (codes z.1)) (λ b. (sym y.0 b, sym y.2 b)) c.below))
        (λ (y : HasSlot w s m true x a j). let d = t.entries x a j y in (r.old x d.0, d.1)) (back true x a j f);
    placed = λ x h. ⊎_elim
        (λ (y : put x). let st = t.placed x y in (st.0, st.1, forth x st.0 st.1 st.2))
        (λ (y : x ≡ n). (p, i, record { linked = c.linked; kind = c.leaf; room = c.room; some_n = λ z. c.row (sym y ∙ z); there = e.here ∙ sym y })) (r.all x h);
  }

-- a board of one root page, all of whose words but the header are 0
abbrev pub first_place : Place
first_place = record { path = []; rank = 0; leaf = false; from = 0; way = More }

way_above : (way : Way) → 0 < at_way way
way_above More = omega arith
way_above (Branch k) = omega arith

pub opens : (w : ℕ → ℕ → ℕ) (s : Sheet) (codes : ℕ → List ℕ) → w 1 0 ≡ 2 → ((i : ℕ) → 0 < i → w 1 i ≡ 0) → IsLinked s 1 → ((p : ℕ) → IsLinked s p → p ≡ 1)
    → Tree w s (λ p. first_place) codes (λ r. ⊥)
opens w s codes head none root only = record {
  root = root;
  top = refl;
  numbered = λ p l z. let e = only p l in omega arith;
  pages = λ p l. subst (λ (x : ℕ). PageStands (w x) first_place) (sym (only p l)) record {
    header = head;
    front = λ i j le room z. none (2 + 2 * j) (omega arith);
    bare = λ _ i room z. none (3 + 2 * i) (omega arith);
    full = λ h. absurd (h (none 1 (omega arith)));
    low = λ leaf. absurd cc;
    shallow = λ _. omega arith;
  };
  named = λ p l below. absurd (below (only p l));
  leads = λ q way l h some_n. absurd (some_n (ap (λ x. w x (at_way way)) (only q l) ∙ none (at_way way) (way_above way)));
  alone = λ p q l o _ _. only p l ∙ sym (only q o);
  apart = λ n p q i j a b _. absurd (a.some_n (sym a.there ∙ (ap (λ x. w x (2 + 2 * i)) (only p a.linked) ∙ none (2 + 2 * i) (omega arith))));
  rows = λ n p q i j a b. let bad : false ≡ true = a.kind in absurd cc;
  entries = λ n p i a. let bad : false ≡ true = a.kind in absurd cc;
  placed = λ r h. absurd h;
}
