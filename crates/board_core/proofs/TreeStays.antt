-- A step of another group: the same pages are linked, and the words of linked and reached pages stay.
use Rattle.std.proofs.Common.{◌≡◌, ◌≢◌, ℕ, ◌+◌, Bool, true, false, List, sym, refl, ◌∙◌, subst, inl, inr}
use Rattle.board_core.specs.declared.tree.Reached.{Reached}
use Rattle.board_core.specs.Each.{Each}
use Rattle.board_core.specs.Sheets.{Sheet, IsLinked}
use Rattle.board_core.specs.ClassTree.{Place, at_way, slot_at, Follows, PageStands, IsFrom, HasSlot, Stands, Tree}
use Rattle.board_core.specs.KnownPages.{IsFullLeaf, KnowsPages, Lasts}
use Rattle.board_core.proofs.KnownSteps.{turned_stays, known_words}

-- leaves of the last depth that stay linked where they stood
pub lasts_same : (s z : Sheet) (m v : ℕ → Place) → ((p : ℕ) → IsLinked s p → IsLinked z p) → ((p : ℕ) → IsLinked s p → v p ≡ m p) → (xs : List Reached) → Each (Lasts s m) xs → Each (Lasts z v) xs
lasts_same s z m v more same xs h j x there = let l = h j x there in record { leaf = l.leaf; deep = l.deep; linked = more x.page l.linked; place = same x.page l.linked ∙ l.place }

module _ (w u : ℕ → ℕ → ℕ) (s z : Sheet) (m : ℕ → Place) (codes : ℕ → List ℕ) (put puts : ℕ → Type 0)
    (more : (p : ℕ) → IsLinked s p → IsLinked z p) (less : (p : ℕ) → IsLinked z p → IsLinked s p) (word : (p i : ℕ) → IsLinked s p → u p i ≡ w p i) where
  back : (b : Bool) (n p i : ℕ) → HasSlot u z m b n p i → HasSlot w s m b n p i
  back b n p i h = let l = less p h.linked in record { linked = l; kind = h.kind; room = h.room; some_n = h.some_n; there = sym (word p (slot_at b i) l) ∙ h.there }

  pub stands_same : (n : ℕ) → Stands w s m n → Stands u z m n
  stands_same n t = let h = t.2 in (t.0, t.1, record { linked = more t.0 h.linked; kind = h.kind; room = h.room; some_n = h.some_n; there = word t.0 (2 + t.1) h.linked ∙ h.there })

  pub tree_same : ((n : ℕ) → put n → puts n) → ((n : ℕ) → puts n → put n) → Tree w s m codes put → Tree u z m codes puts
  tree_same plus minus t = record {
    root = more 1 t.root;
    top = t.top;
    numbered = λ p l. t.numbered p (less p l);
    pages = λ p l. let o = less p l in subst (λ (h : ℕ → ℕ). PageStands h (m p)) (λ k i. sym (word p i o) k) (t.pages p o);
    named = λ p l below. let h = t.named p (less p l) below in let f : ℕ = (m p).from in
        record { linked = more f h.linked; there = word f (at_way (m p).way) h.linked ∙ h.there; follows = subst (λ (g : ℕ → ℕ). Follows g (m f) (m p).way (m p)) (λ k i. sym (word f i h.linked) k) h.follows };
    leads = λ q way l h some_n. let o = less q l in let e = word q (at_way way) o in let f = t.leads q way o h (λ y. some_n (e ∙ y)) in
        subst (λ (n : ℕ). IsFrom z m q way n) (sym e) record { linked = more (w q (at_way way)) f.linked; below = f.below; from = f.from; by = f.by };
    alone = λ p q l o. t.alone p q (less p l) (less q o);
    apart = λ n p q i j a b. t.apart n p q i j (back false n p i a) (back false n q j b);
    rows = λ n p q i j a b. t.rows n p q i j (back true n p i a) (back true n q j b);
    entries = λ n p i a. let e = t.entries n p i (back true n p i a) in (plus n e.0, e.1);
    placed = λ n h. stands_same n (t.placed n (minus n h));
  }

  pub known_same : (old : ℕ → Type 0) (rs : List Reached) → ((n : ℕ) → old n → n ≢ 0) → Each (λ x. (i : ℕ) → u x.page i ≡ w x.page i) rs → KnowsPages w s m codes old rs → KnowsPages u z m codes old rs
  known_same old rs some_r words k = known_words w u s z m m codes old rs k
      (λ j x there. let e = words j x there in record {
        inner = λ _ l. more x.page l;
        place = λ l. (less x.page l, refl);
        slots = λ i n _ y. e (slot_at x.leaf i) ∙ y;
        more = λ p _. e 1;
        old = λ _ l. inl (more x.page l);
        turned = λ _ g. turned_stays s z m m more (λ p l. refl) x g;
        still = λ _ o. inr (subst (λ (g : ℕ → ℕ). IsFullLeaf g x) (λ a i. sym (e i) a) o);
      })
      (λ j x there _ l n o b. inl (more x.page l)) some_r
