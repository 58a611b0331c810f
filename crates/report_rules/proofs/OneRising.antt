-- Two lists that rise in number, each of all things with a property, are one list, if no two such things have one number.
use Rattle.std.proofs.Common.{◌≡◌, ◌⊎◌, inl, inr, ℕ, zero, suc, ◌+◌, ◌≤◌, ◌<◌, List, [], ◌∷◌, map, refl, sym, subst, All, arith}
use Rattle.std.specs.Prelude.{Contains, slice_index}
use Rattle.std.specs.List.Sorted.{IsStrictlyIncreasing}
use Rattle.std.proofs.lemmas.List.Elements.{All-head, All-tail}

abbrev pub RisesFrom : {X : Type 0} → (X → ℕ) → ℕ → List X → Type 0
RisesFrom number low [] = Unit {0}
RisesFrom number low (x ∷ xs) = (low ≤ number x) × RisesFrom number (number x + 1) xs

abbrev pub IsIn : {X : Type 0} → (X → ℕ) → ℕ → List X → Type 0
IsIn number n [] = ⊥
IsIn number n (x ∷ xs) = (n ≡ number x) ⊎ IsIn number n xs

tail_rises : (x : ℕ) (xs : List ℕ) → IsStrictlyIncreasing (x ∷ xs) → IsStrictlyIncreasing xs
tail_rises x xs rising k within =
    let e : suc k + 1 ≡ suc (k + 1) = omega arith in
    subst (λ n. slice_index xs k < slice_index (x ∷ xs) n) e (rising (suc k) (omega (arith, within)))

above_first : {X : Type 0} (number : X → ℕ) (x : X) (xs : List X) → IsStrictlyIncreasing (map number (x ∷ xs)) → (n : ℕ) → IsIn number n (x ∷ xs) → number x ≤ n
above_first number x xs rising n (inl same) = omega (arith, same)
above_first number x [] rising n (inr more) = absurd more
above_first number x (y ∷ xs) rising n (inr more) =
    let rest = above_first number y xs (tail_rises (number x) (map number (y ∷ xs)) rising) n more in
    omega (arith, rest, rising 0 (omega arith))

rises : {X : Type 0} (number : X → ℕ) (low : ℕ) (xs : List X) → IsStrictlyIncreasing (map number xs) → ((n : ℕ) → IsIn number n xs → low ≤ n)
    → RisesFrom number low xs
rises number low [] rising above = tt
rises number low (x ∷ []) rising above = (above (number x) (inl refl), tt)
rises number low (x ∷ y ∷ xs) rising above =
    let more : IsStrictlyIncreasing (map number (y ∷ xs)) = tail_rises (number x) (map number (y ∷ xs)) rising in
    let next : number x < number y = rising 0 (omega arith) in
    let rest : RisesFrom number (number y) (y ∷ xs) = rises number (number y) (y ∷ xs) more (above_first number y xs more) in
    (above (number x) (inl refl), (omega (arith, next), rest.1))

in_above : {X : Type 0} (number : X → ℕ) (low n : ℕ) (xs : List X) → RisesFrom number low xs → IsIn number n xs → low ≤ n
in_above number low n [] r is = absurd is
in_above number low n (x ∷ xs) r (inl same) = omega (arith, r.0, same)
in_above number low n (x ∷ xs) r (inr more) = omega (arith, r.0, in_above number (number x + 1) n xs r.1 more)

from_contains : {X : Type 0} (number : X → ℕ) (n : ℕ) (xs : List X) → Contains (map number xs) n → IsIn number n xs
from_contains number n [] (k, within, at) = absurd (omega arith)
from_contains number n (x ∷ xs) (zero, within, at) = inl (sym at)
from_contains number n (x ∷ xs) (suc k, within, at) = inr (from_contains number n xs (k, omega (arith, within), at))

module _ {X : Type 0} (number : X → ℕ) (P : X → Type 0) (one : (x y : X) → number x ≡ number y → P x → P y → x ≡ y) where
  same_lists : (low : ℕ) (xs ys : List X) → RisesFrom number low xs → RisesFrom number low ys → All P xs → All P ys
      → ((n : ℕ) → IsIn number n xs → IsIn number n ys) → ((n : ℕ) → IsIn number n ys → IsIn number n xs) → xs ≡ ys
  same_lists low [] [] rx ry ax ay there back = refl
  same_lists low [] (y ∷ ys) rx ry ax ay there back = absurd (back (number y) (inl refl))
  same_lists low (x ∷ xs) [] rx ry ax ay there back = absurd (there (number x) (inl refl))
  same_lists low (x ∷ xs) (y ∷ ys) rx ry ax ay there back =
      let above_y : number y ≤ number x = in_above number (number y) (number x) (y ∷ ys) (omega arith, ry.1) (there (number x) (inl refl)) in
      let above_x : number x ≤ number y = in_above number (number x) (number y) (x ∷ xs) (omega arith, rx.1) (back (number y) (inl refl)) in
      let same : number x ≡ number y = omega (arith, above_x, above_y) in
      let here : x ≡ y = one x y same (All-head P x xs ax) (All-head P y ys ay) in
      let next : RisesFrom number (number y + 1) xs = subst (λ n. RisesFrom number (n + 1) xs) same rx.1 in
      let rest : xs ≡ ys = same_lists (number y + 1) xs ys next ry.1 (All-tail P x xs ax) (All-tail P y ys ay)
      (λ n is. elim (there n (inr is)) [
        | inl also ↦ absurd (omega (arith, also, in_above number (number y + 1) n xs next is))
        | inr more ↦ more
      ])
      (λ n is. elim (back n (inr is)) [
        | inl also ↦ absurd (omega (arith, also, same, in_above number (number y + 1) n ys ry.1 is))
        | inr more ↦ more
      ]) in
      cc (here, rest)

  all_there : (xs ys : List X) → All P xs → ((x : X) → P x → Contains (map number ys) (number x)) → (n : ℕ) → IsIn number n xs → IsIn number n ys
  all_there [] ys each has n is = absurd is
  all_there (x ∷ xs) ys each has n (inl same) = from_contains number n ys (subst (λ k. Contains (map number ys) k) (sym same) (has x (All-head P x xs each)))
  all_there (x ∷ xs) ys each has n (inr more) = all_there xs ys (All-tail P x xs each) has n more

  pub one_list : (xs ys : List X) → IsStrictlyIncreasing (map number xs) → IsStrictlyIncreasing (map number ys) → All P xs → All P ys
      → ((x : X) → P x → Contains (map number xs) (number x)) → ((x : X) → P x → Contains (map number ys) (number x)) → xs ≡ ys
  one_list xs ys rx ry ax ay all_xs all_ys =
      same_lists 0 xs ys (rises number 0 xs rx (λ n is. omega arith)) (rises number 0 ys ry (λ n is. omega arith)) ax ay
      (all_there xs ys ax all_ys) (all_there ys xs ay all_xs)
