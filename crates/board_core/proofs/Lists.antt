-- Lists read by `get_elem?`, and sums over them.
use Rattle.std.proofs.Common.{◌⊎◌, inl, inr, ◌≡◌, ◌≢◌, ℕ, zero, suc, ◌+◌, ◌<◌, ◌≤◌, List, [], ◌∷◌, ◌++◌, length, set, sym, refl, ap, subst, ⊎_elim, arith}
use mathlib.Core.Option.{some, some-injective, some-ne-none}
use lib.ListN.{get_elem?}
use Rattle.atomic_table.proofs.Lists.{at_set}
pub use Rattle.atomic_table.proofs.Lists.{at_longer, at_last}
use Rattle.board_core.specs.Each.{Each, sum_of}

module _ {A : Type 0} where
  pub inside : (l : List A) (i : ℕ) (a : A) → get_elem? l i ≡ some a → i < length l
  inside [] i a e = absurd (some-ne-none a (sym e))
  inside (x ∷ xs) zero a e = omega arith
  inside (x ∷ xs) (suc i) a e = let k = inside xs i a e in omega arith

  -- one element was changed twice
  pub set_twice : (l : List A) (i : ℕ) (a b : A) → set (set l i a) i b ≡ set l i b
  set_twice [] i a b = refl
  set_twice (x ∷ xs) zero a b = refl
  set_twice (x ∷ xs) (suc i) a b = ap (λ ys. x ∷ ys) (set_twice xs i a b)

  pub each_none : (F : A → Type 0) → Each F []
  each_none F j x e = absurd (some-ne-none x (sym e))

  pub each_cons : (F : A → Type 0) (a : A) (xs : List A) → F a → Each F xs → Each F (a ∷ xs)
  each_cons F a xs first rest zero x e = subst F (some-injective a x e) first
  each_cons F a xs first rest (suc j) x e = rest j x e

  -- a fact of each element, where one was changed
  pub each_set : (F : A → Type 0) (l : List A) (i : ℕ) (b : A) → F b → ((j : ℕ) (x : A) → j ≢ i → get_elem? l j ≡ some x → F x) → Each F (set l i b)
  each_set F l i b mine others j x e = ⊎_elim (λ (t : (j ≡ i) × (b ≡ x)). subst F t.1 mine) (λ (t : (j ≢ i) × (get_elem? l j ≡ some x)). others j x t.0 t.1) (at_set l i j b x e)

  pub each_kept : (F : A → Type 0) (l : List A) (i : ℕ) (b : A) → F b → Each F l → Each F (set l i b)
  each_kept F l i b mine all = each_set F l i b mine (λ j x _. all j x)

  pub each_snoc : (F : A → Type 0) (l : List A) (b : A) → F b → Each F l → Each F (l ++ b ∷ [])
  each_snoc F [] b mine all zero x e = subst F (some-injective b x e) mine
  each_snoc F [] b mine all (suc j) x e = absurd (some-ne-none x (sym e))
  each_snoc F (y ∷ ys) b mine all zero x e = all zero x e
  each_snoc F (y ∷ ys) b mine all (suc j) x e = each_snoc F ys b mine (λ i. all (suc i)) j x e

  pub at_end : (l : List A) (a b : A) (j : ℕ) → get_elem? (l ++ a ∷ []) j ≡ some b → (get_elem? l j ≡ some b) ⊎ ((j ≡ length l) × (a ≡ b))
  at_end [] a b zero e = inr (refl, some-injective a b e)
  at_end [] a b (suc j) e = absurd (some-ne-none b (sym e))
  at_end (x ∷ xs) a b zero e = inl e
  at_end (x ∷ xs) a b (suc j) e = ⊎_elim (λ (t : get_elem? xs j ≡ some b). inl t) (λ (t : (j ≡ length xs) × (a ≡ b)). inr (ap suc t.0, t.1)) (at_end xs a b j e)

  pub each_append : (F : A → Type 0) (xs ys : List A) → Each F xs → Each F ys → Each F (xs ++ ys)
  each_append F [] ys a b j y e = b j y e
  each_append F (x ∷ xs) ys a b zero y e = a zero y e
  each_append F (x ∷ xs) ys a b (suc j) y e = each_append F xs ys (λ i. a (suc i)) b j y e

  -- ---- sums

  pub sum-append : (f : A → ℕ) (xs ys : List A) → sum_of f (xs ++ ys) ≡ sum_of f xs + sum_of f ys
  sum-append f [] ys = omega arith
  sum-append f (x ∷ xs) ys = let h = sum-append f xs ys in omega arith

  pub sum_set : (f : A → ℕ) (xs : List A) (j : ℕ) (v w : A) → get_elem? xs j ≡ some v → sum_of f (set xs j w) + f v ≡ sum_of f xs + f w
  sum_set f [] j v w e = absurd (some-ne-none v (sym e))
  sum_set f (x ∷ xs) zero v w e = let h : f x ≡ f v = ap f (some-injective x v e) in omega arith
  sum_set f (x ∷ xs) (suc j) v w e = let h = sum_set f xs j v w e in omega arith

  pub one_of : (f : A → ℕ) (xs : List A) (j : ℕ) (v : A) → get_elem? xs j ≡ some v → f v ≤ sum_of f xs
  one_of f [] j v e = absurd (some-ne-none v (sym e))
  one_of f (x ∷ xs) zero v e = let h : f x ≡ f v = ap f (some-injective x v e) in omega arith
  one_of f (x ∷ xs) (suc j) v e = let h = one_of f xs j v e in omega arith

  -- two elements at different places count apart
  pub two_of : (f : A → ℕ) (xs : List A) (i j : ℕ) (u v : A) → i ≢ j → get_elem? xs i ≡ some u → get_elem? xs j ≡ some v → f u + f v ≤ sum_of f xs
  two_of f [] i j u v other a b = absurd (some-ne-none u (sym a))
  two_of f (x ∷ xs) zero zero u v other a b = absurd (other refl)
  two_of f (x ∷ xs) zero (suc j) u v other a b = let h = one_of f xs j v b in let e : f x ≡ f u = ap f (some-injective x u a) in omega arith
  two_of f (x ∷ xs) (suc i) zero u v other a b = let h = one_of f xs i u a in let e : f x ≡ f v = ap f (some-injective x v b) in omega arith
  two_of f (x ∷ xs) (suc i) (suc j) u v other a b = let h = two_of f xs i j u v (λ e. other (ap suc e)) a b in omega arith

  pub sum_zero : (f : A → ℕ) (xs : List A) → Each (λ x. f x ≡ 0) xs → sum_of f xs ≡ 0
  sum_zero f [] all = refl
  sum_zero f (x ∷ xs) all = let a = all zero x refl in let h = sum_zero f xs (λ j. all (suc j)) in omega arith
