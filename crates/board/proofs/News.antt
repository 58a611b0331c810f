-- One more new caller, and the words of a new board.
use Rattle.std.proofs.Common.{◌≡◌, ℕ, zero, suc, ◌+◌, ◌*◌, ◌-◌, ◌<◌, ◌≤◌, List, [], ◌∷◌, ◌++◌, length, set, refl, sym, ap, ◌∙◌, subst, ⊎_elim, ◌⊎◌, inl, inr, arith}
use mathlib.Core.Option.{some, some-injective, some-ne-none}
use lib.ListN.{get_elem?}
use Rattle.htss_defs.specs.declared.shape.Shape.{Shape}
use Rattle.board_core.specs.Words.{zeros, opening_words, total_of, states_at, pages_at, regions_size}
use Rattle.board.specs.Seated.{Place, Seated, IsNew, AreNew}

at_end : (cs : List Seated) (c : Seated) (i : ℕ) (x : Seated) → get_elem? (cs ++ c ∷ []) i ≡ some x → (get_elem? cs i ≡ some x) ⊎ ((i ≡ length cs) × (c ≡ x))
at_end [] c zero x at = inr (refl, some-injective c x at)
at_end [] c (suc i) x at = absurd (some-ne-none x (sym at))
at_end (y ∷ ys) c zero x at = inl at
at_end (y ∷ ys) c (suc i) x at = ⊎_elim (λ t. inl t) (λ (t : (i ≡ length ys) × (c ≡ x)). inr (ap suc t.0, t.1)) (at_end ys c i x at)

pub new_snoc : (b : Place) (cs : List Seated) (c : Seated) (n : ℕ) → length cs ≡ n → IsNew b n c → AreNew b cs → AreNew b (cs ++ c ∷ [])
new_snoc b cs c n count new all i x at = ⊎_elim (λ (t : get_elem? cs i ≡ some x). all i x t)
    (λ (t : (i ≡ length cs) × (c ≡ x)). subst (λ (y : ℕ × Seated). IsNew b y.0 y.1) (λ j. (sym (t.0 ∙ count) j, t.1 j)) new) (at_end cs c i x at)

-- ---- a word stored among zeros

set_zero : (a b n x : ℕ) → n ≡ a + suc b → set (zeros n) a x ≡ zeros a ++ x ∷ zeros b
set_zero zero b zero x e = absurd (omega arith)
set_zero zero b (suc n) x e = let same : n ≡ b = omega arith in ap (λ (z : ℕ). x ∷ zeros z) same
set_zero (suc a) b zero x e = absurd (omega arith)
set_zero (suc a) b (suc n) x e = ap (λ (l : List ℕ). 0 ∷ l) (set_zero a b n x (omega arith))

set_past : (a x : ℕ) (ys : List ℕ) (i j y : ℕ) → j ≡ a + suc i → set (zeros a ++ x ∷ ys) j y ≡ zeros a ++ x ∷ set ys i y
set_past zero x ys i zero y e = absurd (omega arith)
set_past zero x ys i (suc j) y e = let same : j ≡ i = omega arith in ap (λ (z : ℕ). x ∷ set ys z y) same
set_past (suc a) x ys i zero y e = absurd (omega arith)
set_past (suc a) x ys i (suc j) y e = ap (λ (l : List ℕ). 0 ∷ l) (set_past a x ys i j y (omega arith))

three_set : (c p r q m j : ℕ) → q ≡ p + suc r → m ≡ c + suc q → j ≡ c + suc p → set (set (set (zeros (suc (suc (suc m)))) 2 1) (suc (suc (suc c))) 1) (suc (suc (suc j))) 2 ≡ 0 ∷ 0 ∷ 1 ∷ (zeros c ++ 1 ∷ (zeros p ++ 2 ∷ zeros r))
three_set c p r q m j e f g = ap (λ (l : List ℕ). 0 ∷ 0 ∷ 1 ∷ l) (ap (λ (l : List ℕ). set l j 2) (set_zero c q m 1 f) ∙ (set_past c 1 (zeros q) p j 2 g ∙ ap (λ (l : List ℕ). zeros c ++ 1 ∷ l) (set_zero p r q 2 e)))

-- a list of zeros whose third word, and two words further on, are stored
pub opened : (k : Shape) (ws : List ℕ) (total states pages : ℕ) → 16 ≤ k.pages → ws ≡ zeros total → total ≡ total_of k → states ≡ states_at k → pages ≡ pages_at k → set (set (set ws 2 1) states 1) pages 2 ≡ opening_words k
opened k ws total states pages some_page w e f g =
    let size : ℕ = regions_size k in
    let c : ℕ = k.loaders + k.searchers in
    let p : ℕ = k.pages - 1 in
    let r : ℕ = 16 * k.pages - 1 + k.log + size in
    let all : total ≡ suc (suc (suc (c + suc (p + suc r)))) = e ∙ sum k.loaders k.searchers k.pages k.log size some_page in
    let first : states ≡ suc (suc (suc c)) = omega arith in
    let second : pages ≡ suc (suc (suc (c + suc p))) = omega arith in
    (λ i. set (set (set (w i) 2 1) states 1) pages 2) ∙ ((λ i. set (set (set (zeros (all i)) 2 1) (first i) 1) (second i) 2) ∙ three_set c p r (p + suc r) (c + suc (p + suc r)) (c + suc p) refl refl refl)
  where
    sum : (l s p g size : ℕ) → 16 ≤ p → 3 + l + s + p + 16 * p + g + size ≡ suc (suc (suc (l + s + suc (p - 1 + suc (16 * p - 1 + g + size)))))
    sum l s p g size enough = omega arith

pub inside_words : (len total states p log rest : ℕ) → len ≡ total → total ≡ states + p + 16 * p + log + rest → 16 ≤ p → (states < len) × (states + p < len)
inside_words len total states p log rest e f enough = (omega arith, omega arith)
