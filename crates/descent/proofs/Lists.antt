-- Lists read by `get_elem?` and by number, lists without repetition, and how long these can be.
use Rattle.std.proofs.Common.{◌≡◌, ◌≢◌, ℕ, zero, suc, ◌<◌, ◌≤◌, ◌⊎◌, List, [], ◌∷◌, ◌++◌, length, set, sym, refl, ap, ◌∙◌, subst, ⊎_elim, arith, inl, inr}
use mathlib.Core.Option.{some, some-injective, some-ne-none}
use mathlib.Core.Logic.{dite}
use native.Mathlib.Decide.{ℕ_discrete}
use lib.ListN.{get_elem?}
use Rattle.board_core.specs.declared.tree.Reached.{Reached}
use Rattle.board_core.specs.Met.{row_named}
use Rattle.board_core.specs.Each.{Each, In}
use Rattle.descent.specs.Different.{AreDifferent}
use Rattle.descent.specs.Seats.{named}
use Rattle.descent.specs.Visits.{visited}

module _ {A : Type 0} where
  pub at_left : (xs ys : List A) (j : ℕ) (x : A) → get_elem? xs j ≡ some x → get_elem? (xs ++ ys) j ≡ some x
  at_left [] ys j x e = absurd (some-ne-none x (sym e))
  at_left (y ∷ xs) ys zero x e = e
  at_left (y ∷ xs) ys (suc j) x e = at_left xs ys j x e

  pub in_left : (xs ys : List A) (x : A) → In x xs → In x (xs ++ ys)
  in_left xs ys x h = (h.0, at_left xs ys h.0 x h.1)

  pub in_right : (xs ys : List A) (x : A) → In x ys → In x (xs ++ ys)
  in_right [] ys x h = h
  in_right (y ∷ xs) ys x h = let k = in_right xs ys x h in (suc k.0, k.1)

  at_split : (xs ys : List A) (j : ℕ) (x : A) → get_elem? (xs ++ ys) j ≡ some x → In x xs ⊎ In x ys
  at_split [] ys j x e = inr (j, e)
  at_split (y ∷ xs) ys zero x e = inl (zero, e)
  at_split (y ∷ xs) ys (suc j) x e = ⊎_elim (λ (h : In x xs). inl (suc h.0, h.1)) (λ (h : In x ys). inr h) (at_split xs ys j x e)

  pub in_split : (xs ys : List A) (x : A) → In x (xs ++ ys) → In x xs ⊎ In x ys
  in_split xs ys x h = at_split xs ys h.0 x h.1

  at_one : (j : ℕ) (x y : A) → get_elem? (y ∷ []) j ≡ some x → x ≡ y
  at_one zero x y e = sym (some-injective y x e)
  at_one (suc j) x y e = absurd (some-ne-none x (sym e))

  pub in_one : (x y : A) → In x (y ∷ []) → x ≡ y
  in_one x y h = at_one h.0 x y h.1

  pub at_last : (xs : List A) (x : A) → get_elem? (xs ++ x ∷ []) (length xs) ≡ some x
  at_last [] x = refl
  at_last (y ∷ xs) x = at_last xs x

  pub at_none : (j : ℕ) (x : A) → get_elem? (let xs : List A = [] in xs) j ≡ some x → ⊥
  at_none j x e = some-ne-none x (sym e)

  pub without : List A → ℕ → List A
  without [] i = []
  without (x ∷ xs) zero = xs
  without (x ∷ xs) (suc i) = x ∷ without xs i

  pub length_without : (xs : List A) (i : ℕ) (x : A) → get_elem? xs i ≡ some x → suc (length (without xs i)) ≡ length xs
  unfolding without
  length_without [] i x e = absurd (some-ne-none x (sym e))
  length_without (y ∷ xs) zero x e = refl
  length_without (y ∷ xs) (suc i) x e = ap suc (length_without xs i x e)

  kept_at : (xs : List A) (i j : ℕ) (x y : A) → get_elem? xs i ≡ some x → get_elem? xs j ≡ some y → y ≢ x → In y (without xs i)
  unfolding without
  kept_at [] i j x y a b other = absurd (some-ne-none x (sym a))
  kept_at (z ∷ xs) zero zero x y a b other = absurd (other (some-injective y x (sym b ∙ a)))
  kept_at (z ∷ xs) zero (suc j) x y a b other = (j, b)
  kept_at (z ∷ xs) (suc i) zero x y a b other = (zero, b)
  kept_at (z ∷ xs) (suc i) (suc j) x y a b other = let k = kept_at xs i j x y a b other in (suc k.0, k.1)

  pub kept_without : (xs : List A) (i : ℕ) (x y : A) → get_elem? xs i ≡ some x → In y xs → y ≢ x → In y (without xs i)
  kept_without xs i x y a h other = kept_at xs i h.0 x y a h.1 other

-- ---- different numbers

pub different_append : (xs ys : List ℕ) → AreDifferent xs → AreDifferent ys → ((x : ℕ) → In x xs → In x ys → ⊥) → AreDifferent (xs ++ ys)
different_append [] ys a b apart = b
different_append (x ∷ xs) ys a b apart = (λ h. ⊎_elim (λ (k : In x xs). a.0 k) (λ (k : In x ys). apart x (zero, refl) k) (in_split xs ys x h), different_append xs ys a.1 b (λ z h k. apart z (suc h.0, h.1) k))

-- numbers that differ and stand in a list are no more than its places
pub few_in : (ds xs : List ℕ) → AreDifferent ds → ((d : ℕ) → In d ds → In d xs) → length ds ≤ length xs
few_in [] xs a h = omega arith
few_in (d ∷ ds) xs a h =
    let at = h d (zero, refl) in
    let rest = few_in ds (without xs at.0) a.1 (λ e k. kept_without xs at.0 d e at.1 (h e (suc k.0, k.1)) (λ same. a.0 (subst (λ (z : ℕ). In z ds) same k))) in
    let size = length_without xs at.0 d at.1 in
    omega arith

upto : ℕ → List ℕ
upto zero = []
upto (suc n) = n ∷ upto n

length_upto : (n : ℕ) → length (upto n) ≡ n
unfolding upto
length_upto zero = refl
length_upto (suc n) = ap suc (length_upto n)

in_upto : (n x : ℕ) → x < n → In x (upto n)
unfolding upto
in_upto zero x h = absurd (omega arith)
in_upto (suc n) x h = dite (ℕ_discrete x n) (λ (e : x ≡ n). (zero, ap some (sym e))) (λ (e : x ≢ n). let k = in_upto n x (omega arith) in (suc k.0, k.1))

-- different numbers from 1 on that are less than n are less than n many
pub fewer_than : (n : ℕ) (xs : List ℕ) → AreDifferent xs → Each (λ x. (0 < x) × (x < n)) xs → 0 < n → length xs < n
fewer_than n xs a each above =
    let zeroth : In 0 xs → ⊥ = λ h. let k = (each h.0 0 h.1).0 in absurd (omega arith) in
    let at : (j x : ℕ) → get_elem? (0 ∷ xs) j ≡ some x → x < n = λ j. elim j as (λ (i : ℕ). (x : ℕ) → get_elem? (0 ∷ xs) i ≡ some x → x < n) [
      | zero ↦ λ x e. let same : 0 ≡ x = some-injective 0 x e in omega arith
      | suc i ↦ λ x e. (each i x e).1
    ] in
    let most = few_in (0 ∷ xs) (upto n) (zeroth, a) (λ d h. in_upto n d (at h.0 d h.1)) in
    let size = length_upto n in
    omega arith

-- ---- pages that were reached, by number

pub at_visit : (rs : List Reached) (n : ℕ) → n < length rs → get_elem? rs n ≡ some (visited rs n)
at_visit [] n h = absurd (omega arith)
at_visit (x ∷ rs) zero h = refl
at_visit (x ∷ rs) (suc n) h = at_visit rs n (omega arith)

pub visit_at : (rs : List Reached) (n : ℕ) (x : Reached) → get_elem? rs n ≡ some x → visited rs n ≡ x
visit_at [] n x e = absurd (some-ne-none x (sym e))
visit_at (y ∷ rs) zero x e = some-injective y x e
visit_at (y ∷ rs) (suc n) x e = visit_at rs n x e

pub set_visit : (rs : List Reached) (n : ℕ) (x : Reached) → n < length rs → visited (set rs n x) n ≡ x
set_visit [] n x h = absurd (omega arith)
set_visit (y ∷ rs) zero x h = refl
set_visit (y ∷ rs) (suc n) x h = set_visit rs n x (omega arith)

pub set_other : (rs : List Reached) (n i : ℕ) (x : Reached) → i ≢ n → visited (set rs n x) i ≡ visited rs i
set_other [] n i x other = refl
set_other (y ∷ rs) zero zero x other = absurd (other refl)
set_other (y ∷ rs) zero (suc i) x other = refl
set_other (y ∷ rs) (suc n) zero x other = refl
set_other (y ∷ rs) (suc n) (suc i) x other = set_other rs n i x (λ e. other (ap suc e))

pub length_set : (rs : List Reached) (n : ℕ) (x : Reached) → length (set rs n x) ≡ length rs
length_set [] n x = refl
length_set (y ∷ rs) zero x = refl
length_set (y ∷ rs) (suc n) x = ap suc (length_set rs n x)

pub left_visit : (rs ss : List Reached) (n : ℕ) → n < length rs → visited (rs ++ ss) n ≡ visited rs n
left_visit [] ss n h = absurd (omega arith)
left_visit (y ∷ rs) ss zero h = refl
left_visit (y ∷ rs) ss (suc n) h = left_visit rs ss n (omega arith)

pub last_visit : (rs : List Reached) (x : Reached) → visited (rs ++ x ∷ []) (length rs) ≡ x
last_visit [] x = refl
last_visit (y ∷ rs) x = last_visit rs x

pub length_snoc : {A : Type 0} (xs : List A) (x : A) → length (xs ++ x ∷ []) ≡ suc (length xs)
length_snoc [] x = refl
length_snoc (y ∷ xs) x = ap suc (length_snoc xs x)

pub set_twice : (rs : List Reached) (n : ℕ) (x y : Reached) → set (set rs n x) n y ≡ set rs n y
set_twice [] n x y = refl
set_twice (z ∷ rs) zero x y = refl
set_twice (z ∷ rs) (suc n) x y = ap (λ l. z ∷ l) (set_twice rs n x y)

pub set_on : (rs ss : List Reached) (n : ℕ) (x : Reached) (f : Reached → Reached) → n < length rs → ss ≡ set rs n x → set ss n (f (visited ss n)) ≡ set rs n (f x)
set_on rs ss n x f h e = (λ k. set (e k) n (f (visited (e k) n))) ∙ (ap (λ y. set (set rs n x) n (f y)) (set_visit rs n x h) ∙ set_twice rs n x (f x))

module _ {A : Type 0} where
  pub set_here : (xs : List A) (i : ℕ) (x : A) → i < length xs → get_elem? (set xs i x) i ≡ some x
  set_here [] i x h = absurd (omega arith)
  set_here (y ∷ xs) zero x h = refl
  set_here (y ∷ xs) (suc i) x h = set_here xs i x (omega arith)

  pub set_again : (xs : List A) (i : ℕ) (x : A) → get_elem? xs i ≡ some x → set xs i x ≡ xs
  set_again [] i x e = refl
  set_again (y ∷ xs) zero x e = λ k. sym (some-injective y x e) k ∷ xs
  set_again (y ∷ xs) (suc i) x e = λ k. y ∷ set_again xs i x e k

  pub set_else : (xs : List A) (i j : ℕ) (x : A) → j ≢ i → get_elem? (set xs i x) j ≡ get_elem? xs j
  set_else [] i j x other = refl
  set_else (y ∷ xs) zero zero x other = absurd (other refl)
  set_else (y ∷ xs) zero (suc j) x other = refl
  set_else (y ∷ xs) (suc i) zero x other = refl
  set_else (y ∷ xs) (suc i) (suc j) x other = set_else xs i j x (λ e. other (ap suc e))

pub named_append : (xs ys : List ℕ) → named (xs ++ ys) ≡ named xs ++ named ys
named_append [] ys = refl
named_append (x ∷ xs) ys = ap (λ l. row_named x ∷ l) (named_append xs ys)
