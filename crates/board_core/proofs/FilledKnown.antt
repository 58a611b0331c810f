-- What anybody knows where a word that was 0 was stored.
use Rattle.std.proofs.Common.{◌≡◌, ◌≢◌, ℕ, ◌⊎◌, List, sym, refl, ◌∙◌, subst, inl, inr}
use mathlib.Core.Logic.{dite}
use native.Mathlib.Decide.{ℕ_discrete}
use Rattle.board_core.specs.declared.tree.Reached.{Reached}
use Rattle.board_core.specs.Sheets.{Sheet, IsLinked}
use Rattle.board_core.specs.ClassTree.{Place, slot_at}
use Rattle.board_core.specs.KnownPages.{IsFullLeaf, KnowsPages}
use Rattle.board_core.specs.Turns.{IsPut}
use Rattle.board_core.proofs.KnownSteps.{known_words}

-- a word of a linked page that was 0 is stored: what anybody knows stays, since only words other than 0 are known
pub other_word : (w : ℕ → ℕ → ℕ) (p i : ℕ) → w p i ≡ 0 → (q j v : ℕ) → v ≢ 0 → w q j ≡ v → (q ≢ p) ⊎ (j ≢ i)
other_word w p i none q j v some_v y = dite (ℕ_discrete q p)
    (λ a. inr (λ b. some_v (sym y ∙ ((λ k. w (a k) (b k)) ∙ none))))
    (λ a. inl a)

pub known_filled : (w u : ℕ → ℕ → ℕ) (s : Sheet) (m : ℕ → Place) (codes : ℕ → List ℕ) (old : ℕ → Type 0) (rs : List Reached) (p i n : ℕ) → IsLinked s p → w p i ≡ 0 → IsPut w u p i n
    → ((r : ℕ) → old r → r ≢ 0) → KnowsPages w s m codes old rs → KnowsPages u s m codes old rs
known_filled w u s m codes old rs p i n l zero_word e some_r k = known_words w u s s m m codes old rs k
    (λ j x there. record {
      inner = λ _ o. o;
      place = λ o. (o, refl);
      slots = λ a v some_v y. e.others x.page (slot_at x.leaf a) (other_word w p i zero_word x.page (slot_at x.leaf a) v some_v y) ∙ y;
      more = λ q h. let f = (k.fits j x there).more q h in e.others x.page 1 (other_word w p i zero_word x.page 1 q f.2 f.0);
      old = λ _ o. inl o;
      turned = λ _ g. g;
      still = λ _ o. dite (ℕ_discrete x.page p)
          (λ y. inl (subst (λ (q : ℕ). IsLinked s q) (sym y) l))
          (λ y. inr (subst (λ (g : ℕ → ℕ). IsFullLeaf g x) (λ a b. sym (e.others x.page b (inl y)) a) o));
    })
    (λ j x there _ o r h b. inl o) some_r
