-- Where the new pages stand.
use Rattle.std.proofs.Common.{◌≡◌, ◌≢◌, ℕ, zero, suc, ◌+◌, ◌*◌, ◌-◌, ◌/◌, ◌%◌, ◌<◌, ◌≤◌, eqb, List, [], ◌∷◌, length, get_or, sym, refl, ap, ◌∙◌, arith}
use Rattle.std.proofs.lemmas.Bool.{cond-true, cond-false, eq-eqb, ne_eqb}
use Rattle.board_core.specs.ClassTree.{Place}
use Rattle.leaf_split.specs.Pages.{pages_of, inner_place, leaf_place, ArePlaces}
use Rattle.leaf_split.specs.Places.{place_at, settled, AreApart}
use Rattle.leaf_split.proofs.Built.{inner_used, leaf_used}

pub settled_at : (f old : ℕ → Place) (t : ℕ) (ns : List ℕ) (i : ℕ) → i < length ns → ((j : ℕ) → j < i → get_or ns j 0 ≢ get_or ns i 0) → settled f old t ns (get_or ns i 0) ≡ f (t + i)
settled_at f old t [] i l apart = absurd (omega arith)
settled_at f old t (n ∷ ns) zero l apart = let e : t ≡ t + 0 = omega arith in cond-true (eqb n n) _ _ (eq-eqb n n refl) ∙ ap f e
settled_at f old t (n ∷ ns) (suc i) l apart =
    let e : t + 1 + i ≡ t + suc i = omega arith in
    cond-false (eqb (get_or ns i 0) n) _ _ (ne_eqb (get_or ns i 0) n (λ y. apart 0 (omega arith) (sym y))) ∙
    (settled_at f old (t + 1) ns i (omega arith) (λ j m. apart (suc j) (omega arith)) ∙ ap f e)

pub settled_else : (f old : ℕ → Place) (t : ℕ) (ns : List ℕ) (p : ℕ) → ((j : ℕ) → j < length ns → get_or ns j 0 ≢ p) → settled f old t ns p ≡ old p
settled_else f old t [] p other = refl
settled_else f old t (n ∷ ns) p other =
    cond-false (eqb p n) _ _ (ne_eqb p n (λ y. other 0 (omega arith) (sym y))) ∙ settled_else f old (t + 1) ns p (λ j m. other (suc j) (omega arith))

inner_at : (path : List ℕ) (code number : ℕ → ℕ) (q k b : ℕ) → place_at path code number q k (8 * b) ≡ inner_place path number q k b
inner_at path code number q k b =
    let whole : 8 * b % 8 ≡ 0 = omega arith in
    let part : 8 * b / 8 ≡ b = omega arith in
    cond-true (eqb (8 * b % 8) 0) _ _ (eq-eqb _ _ whole) ∙ ap (λ (c : ℕ). inner_place path number q k c) part

leaf_at : (path : List ℕ) (code number : ℕ → ℕ) (q k b s : ℕ) → s < 7 → place_at path code number q k (8 * b + 1 + s) ≡ leaf_place path code number b s
leaf_at path code number q k b s l =
    let rest : (8 * b + 1 + s) % 8 ≢ 0 = λ z. omega arith in
    let part : (8 * b + 1 + s) / 8 ≡ b = omega arith in
    let slot : (8 * b + 1 + s) % 8 - 1 ≡ s = omega arith in
    cond-false (eqb ((8 * b + 1 + s) % 8) 0) _ _ (ne_eqb _ _ rest) ∙ (λ i. leaf_place path code number (part i) (slot i))

pub places : (path : List ℕ) (count : ℕ) (code : ℕ → ℕ) (q k : ℕ) (ns : List ℕ) (old : ℕ → Place) → AreApart ns → pages_of count ≤ length ns
    → ArePlaces (settled (place_at path code (λ t. get_or ns t 0) q k) old 0 ns) path count code (λ t. get_or ns t 0) q k
places path count code q k ns old a enough =
    let f : ℕ → Place = place_at path code (λ t. get_or ns t 0) q k in
    let at : (t : ℕ) → t < pages_of count → settled f old 0 ns (get_or ns t 0) ≡ f (0 + t) =
    λ t l. settled_at f old 0 ns t (omega arith) (λ j m e. let y : j ≡ t = a.apart j t (omega arith) (omega arith) e in omega arith) in
    record {
      inner = λ b l. let z : 0 + 8 * b ≡ 8 * b = omega arith in at (8 * b) (inner_used count b l) ∙ (ap f z ∙ inner_at path code (λ t. get_or ns t 0) q k b);
      leaf = λ b s r l. let z : 0 + (8 * b + 1 + s) ≡ 8 * b + 1 + s = omega arith in at (8 * b + 1 + s) (leaf_used count b s l) ∙ (ap f z ∙ leaf_at path code (λ t. get_or ns t 0) q k b s r);
    }
