-- Lists read by `get_elem?`, and a fact of each element.
use Rattle.std.proofs.Common.{◌≡◌, ◌≢◌, ℕ, zero, suc, ◌<◌, ◌⊎◌, Bool, true, false, cond, List, [], ◌∷◌, ◌++◌, length, map, filter, set, sym, refl, ap, inl, inr, ⊎_elim, arith}
use mathlib.Core.Option.{some, some-injective, some-ne-none}
use lib.ListN.{get_elem?}
use Rattle.board_core.specs.Each.{Each}
use Rattle.board_core.proofs.Lists.{each_none, each_cons}

module _ {A : Type 0} where
  pub at_set : (l : List A) (i j : ℕ) (a b : A) → get_elem? (set l i a) j ≡ some b → ((j ≡ i) × (a ≡ b)) ⊎ ((j ≢ i) × (get_elem? l j ≡ some b))
  at_set [] i j a b e = absurd (some-ne-none b (sym e))
  at_set (x ∷ xs) zero zero a b e = inl (refl, some-injective a b e)
  at_set (x ∷ xs) zero (suc j) a b e = inr ((λ h. omega arith), e)
  at_set (x ∷ xs) (suc i) zero a b e = inr ((λ h. omega arith), e)
  at_set (x ∷ xs) (suc i) (suc j) a b e = ⊎_elim (λ t. inl (ap suc t.0, t.1)) (λ t. let n = t.0 in inr ((λ h. n (omega arith)), t.1)) (at_set xs i j a b e)

  pub set_here : (l : List A) (i : ℕ) (a : A) → i < length l → get_elem? (set l i a) i ≡ some a
  set_here [] i a h = absurd (omega arith)
  set_here (x ∷ xs) zero a h = refl
  set_here (x ∷ xs) (suc i) a h = set_here xs i a (omega arith)

  pub set_else : (l : List A) (i j : ℕ) (a : A) → j ≢ i → get_elem? (set l i a) j ≡ get_elem? l j
  set_else [] i j a n = refl
  set_else (x ∷ xs) zero zero a n = absurd (n refl)
  set_else (x ∷ xs) zero (suc j) a n = refl
  set_else (x ∷ xs) (suc i) zero a n = refl
  set_else (x ∷ xs) (suc i) (suc j) a n = set_else xs i j a (λ e. n (ap suc e))

  pub set_same : (l : List A) (i : ℕ) (a : A) → get_elem? l i ≡ some a → set l i a ≡ l
  set_same [] i a e = refl
  set_same (x ∷ xs) zero a e = λ k. sym (some-injective x a e) k ∷ xs
  set_same (x ∷ xs) (suc i) a e = λ k. x ∷ set_same xs i a e k

  pub set_twice : (l : List A) (i : ℕ) (a b : A) → set (set l i a) i b ≡ set l i b
  set_twice [] i a b = refl
  set_twice (x ∷ xs) zero a b = refl
  set_twice (x ∷ xs) (suc i) a b = ap (λ (l : List A). x ∷ l) (set_twice xs i a b)

  pub at_longer : (l m : List A) (i : ℕ) (a : A) → get_elem? l i ≡ some a → get_elem? (l ++ m) i ≡ some a
  at_longer [] m i a e = absurd (some-ne-none a (sym e))
  at_longer (x ∷ xs) m zero a e = e
  at_longer (x ∷ xs) m (suc i) a e = at_longer xs m i a e

  pub each_before : (F : A → Type 0) (xs ys : List A) → Each F (xs ++ ys) → Each F xs
  each_before F xs ys all j x there = all j x (at_longer xs ys j x there)

  pub each_behind : (F : A → Type 0) (xs ys : List A) → Each F (xs ++ ys) → Each F ys
  each_behind F [] ys all = all
  each_behind F (x ∷ xs) ys all = each_behind F xs ys (λ j. all (suc j))

  pub each_map : {B : Type 0} (F : B → Type 0) (f : A → B) (xs : List A) → Each (λ x. F (f x)) xs → Each F (map f xs)
  each_map F f [] all = each_none F
  each_map F f (x ∷ xs) all = each_cons F (f x) (map f xs) (all 0 x refl) (each_map F f xs (λ j. all (suc j)))

  one_filtered : (F : A → Type 0) (b : Bool) (x : A) (xs : List A) → F x → Each F xs → Each F (cond b (x ∷ xs) xs)
  one_filtered F true x xs here rest = each_cons F x xs here rest
  one_filtered F false x xs here rest = rest

  pub each_filter : (F : A → Type 0) (p : A → Bool) (xs : List A) → Each F xs → Each F (filter p xs)
  each_filter F p [] all = each_none F
  each_filter F p (x ∷ xs) all = one_filtered F (p x) x (filter p xs) (all 0 x refl) (each_filter F p xs (λ j. all (suc j)))

  pub at_map : {B : Type 0} (f : A → B) (l : List A) (i : ℕ) (a : A) → get_elem? l i ≡ some a → get_elem? (map f l) i ≡ some (f a)
  at_map f [] i a e = absurd (some-ne-none a (sym e))
  at_map f (x ∷ xs) zero a e = ap (λ (y : A). some (f y)) (some-injective x a e)
  at_map f (x ∷ xs) (suc i) a e = at_map f xs i a e

  -- what stands in a list that was mapped
  pub map_back : {B : Type 0} (f : A → B) (l : List A) (i : ℕ) (b : B) → get_elem? (map f l) i ≡ some b → (a : A) × (get_elem? l i ≡ some a) × (f a ≡ b)
  map_back f [] i b e = absurd (some-ne-none b (sym e))
  map_back f (x ∷ xs) zero b e = (x, refl, some-injective (f x) b e)
  map_back f (x ∷ xs) (suc i) b e = map_back f xs i b e

  -- there is an element at each place below the length
  pub elem_at : (l : List A) (i : ℕ) → i < length l → (a : A) × (get_elem? l i ≡ some a)
  elem_at [] i below = absurd (omega arith)
  elem_at (x ∷ xs) zero below = (x, refl)
  elem_at (x ∷ xs) (suc i) below = elem_at xs i (omega arith)
