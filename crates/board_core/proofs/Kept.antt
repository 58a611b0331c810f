-- The entries of held leaves under steps of anybody: in a leaf that left the tree they differ, are placed, and have its path.
use Rattle.std.proofs.Common.{◌≡◌, ◌≢◌, ℕ, ◌+◌, ◌<◌, ◌⊎◌, Bool, true, List, sym, refl, ap, ◌∙◌, subst, ⊎_elim, inl, inr}
use mathlib.Core.Option.{some}
use lib.ListN.{get_elem?}
use Rattle.board_core.specs.declared.tree.Reached.{Reached}
use Rattle.board_core.specs.Each.{Each}
use Rattle.board_core.specs.Sheets.{Sheet, IsLinked}
use Rattle.board_core.specs.ClassTree.{Place, Tree, HasSlot, slot_at, IsBelow}
use Rattle.board_core.specs.KnownPages.{place_of, IsFullLeaf, AreKept, KnowsPages}
use Rattle.board_core.proofs.KnownSteps.{Stays}

-- the same entries, of a board on which no row left its place
pub kept_same : (w u : ℕ → ℕ) (codes : ℕ → List ℕ) (placed places : ℕ → Type 0) (path : List ℕ) → ((r : ℕ) → placed r → places r) → ((i : ℕ) → i < 14 → u (2 + i) ≡ w (2 + i)) → AreKept w codes placed path → AreKept u codes places path
kept_same w u codes placed places path grown same k = record {
  placed = λ i h. subst places (sym (same i h)) (grown (w (2 + i)) (k.placed i h));
  below = λ i h. subst (λ (n : ℕ). IsBelow path (codes n)) (sym (same i h)) (k.below i h);
  differ = λ i j hi hj e. k.differ i j hi hj (sym (same i hi) ∙ (e ∙ same j hj));
}

module _ (w u : ℕ → ℕ → ℕ) (s z : Sheet) (m v : ℕ → Place) (codes : ℕ → List ℕ) (placed places : ℕ → Type 0) (old : ℕ → Type 0) (rs : List Reached)
    (t : Tree w s m codes placed) (k : KnowsPages w s m codes old rs) (grown : (r : ℕ) → placed r → places r) (stays : Each (Stays w u s z m v) rs)
    (left : Each (λ x. x.leaf ≡ true → IsLinked s x.page → IsLinked z x.page ⊎ ((i : ℕ) → u x.page (2 + i) ≡ w x.page (2 + i))) rs)
    (kept : Each (λ x. x.leaf ≡ true → IsLinked s x.page ⊎ AreKept (w x.page) codes placed x.path) rs) where
  -- a leaf that is full and linked: what it shows
  of_linked : (x : Reached) → x.leaf ≡ true → IsLinked s x.page → m x.page ≡ place_of x → ((i : ℕ) → i < 14 → w x.page (2 + i) ≢ 0) → AreKept (w x.page) codes placed x.path
  of_linked x e l place full =
      let shows : (i n : ℕ) → i < 14 → w x.page (2 + i) ≡ n → n ≢ 0 → HasSlot w s m true n x.page i =
      λ i n h there some_n. record { linked = l; kind = ap (λ (p : Place). p.leaf) place ∙ e; room = h; some_n = some_n; there = there } in
      record {
        placed = λ i h. (t.entries (w x.page (2 + i)) x.page i (shows i (w x.page (2 + i)) h refl (full i h))).0;
        below = λ i h. subst (λ (p : Place). IsBelow p.path (codes (w x.page (2 + i)))) place (t.entries (w x.page (2 + i)) x.page i (shows i (w x.page (2 + i)) h refl (full i h))).1;
        differ = λ i j hi hj same. (t.rows (w x.page (2 + i)) x.page x.page i j (shows i (w x.page (2 + i)) hi refl (full i hi)) (shows j (w x.page (2 + i)) hj (sym same) (full i hi))).1;
      }

  was_linked : (j : ℕ) (x : Reached) → get_elem? rs j ≡ some x → x.leaf ≡ true → IsLinked s x.page → IsLinked z x.page ⊎ AreKept (u x.page) codes places x.path
  was_linked j x at e l = ⊎_elim (λ (lz : IsLinked z x.page). inl lz)
      (λ (same : (i : ℕ) → u x.page (2 + i) ≡ w x.page (2 + i)). ⊎_elim (λ (lz : IsLinked z x.page). inl lz)
      (λ (o : IsFullLeaf (u x.page) x). inr (kept_same (w x.page) (u x.page) codes placed places x.path grown (λ i h. same i)
      (of_linked x e l ((k.fits j x at).place l) (λ i h none. o.full i h (same i ∙ none)))))
      ((stays j x at).old e l))
      (left j x at e l)

  pub kept_words : Each (λ x. x.leaf ≡ true → IsLinked z x.page ⊎ AreKept (u x.page) codes places x.path) rs
  kept_words j x at e = ⊎_elim (λ (l : IsLinked s x.page). was_linked j x at e l)
      (λ (o : IsFullLeaf (w x.page) x). ⊎_elim (λ (l : IsLinked s x.page). was_linked j x at e l)
      (λ (a : AreKept (w x.page) codes placed x.path). ⊎_elim (λ (lz : IsLinked z x.page). inl lz)
      (λ (o2 : IsFullLeaf (u x.page) x). inr (kept_same (w x.page) (u x.page) codes placed places x.path grown
      (λ i h. subst (λ (b : Bool). w x.page (slot_at b i) ≡ w x.page (2 + i) → u x.page (slot_at b i) ≡ w x.page (2 + i)) e ((stays j x at).slots i (w x.page (2 + i)) (o.full i h)) refl) a))
      ((stays j x at).still e o))
      (kept j x at e))
      ((k.fits j x at).old e)
