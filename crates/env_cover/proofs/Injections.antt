-- Counts along a map without repetition.
use Rattle.std.proofs.Common.{◌≡◌, ◌≢◌, ℕ, zero, suc, ◌+◌, ◌<◌, ◌≤◌, Bool, true, not, ◌&&◌, eqb, add-one, List, [], ◌∷◌, length, get_or, refl, sym, ap, subst, ◌∙◌, inl, inr, arith}
use Rattle.std.specs.List.{count_by, range_with_len}
use Rattle.std.proofs.lemmas.Bool.{cases_Bool, and_from, and_right, not_from_true, not_from_false, eq-eqb, ne_eqb}
use Rattle.env_code.proofs.Counts.{one, and_true, count-cons, count, count-mark}

-- y goes to a place from b on, of m, that passes
pub record IsSent (R : ℕ → ℕ → Type 0) (passes : ℕ → Bool) (b m y : ℕ) : Type 0 where
  pub place : ℕ
  pub low : b ≤ place
  pub high : place < b + m
  pub passed : passes place ≡ true
  pub related : R y place

-- each number that passes p goes to one that passes q, and no two to the same
pub count-inject : (n : ℕ) (p q : ℕ → Bool) (a b m : ℕ) (R : ℕ → ℕ → Type 0)
    → ((y : ℕ) → a ≤ y → y < a + n → p y ≡ true → IsSent R q b m y)
    → ((y z x : ℕ) → a ≤ y → y < a + n → a ≤ z → z < a + n → R y x → R z x → y ≡ z)
    → count p a n ≤ count q b m
count-inject zero p q a b m R lands apart = omega arith
count-inject (suc n) p q a b m R lands apart =
    let c = count-cons p a (range_with_len (a + 1) n) in
    elim (cases_Bool (p a)) [
      | inr failed ↦
          let rest : count p (a + 1) n ≤ count q b m = count-inject n p q (a + 1) b m R
          (λ y low high pass. lands y (omega arith) (omega arith) pass)
          (λ y z x yl yh zl zh r s. apart y z x (omega arith) (omega arith) (omega arith) (omega arith) r s) in
          let none : one (p a) ≡ 0 = ap one failed in
          omega (arith, c, rest, none)
      | inl passed ↦
          let sent : IsSent R q b m a = lands a (omega arith) (omega arith) passed in
          let there : ℕ = sent.place in
          let r : ℕ → Bool = λ z. q z && not (eqb z there) in
          let marked : count q b m ≡ count r b m + 1 = count-mark r q b m there sent.low sent.high
          (and_right (q there) (not (eqb there there)) (not_from_true (eqb there there) (eq-eqb there there refl))) sent.passed
          (λ z other. sym (ap (λ b. q z && not b) (ne_eqb z there other) ∙ and_true (q z))) in
          let rest : count p (a + 1) n ≤ count r b m = count-inject n p r (a + 1) b m R
          (λ y low high pass.
          let at : IsSent R q b m y = lands y (omega arith) (omega arith) pass in
          let other : at.place ≢ there = λ same. (let is : y ≡ a = apart y a there (omega arith) (omega arith) (omega arith) (omega arith) (subst (λ (z : ℕ). R y z) same at.related) sent.related in omega arith) in
          record {
            place = at.place;
            low = at.low;
            high = at.high;
            passed = and_from (q at.place) (not (eqb at.place there)) at.passed (not_from_false (eqb at.place there) (ne_eqb at.place there other));
            related = at.related;
          })
          (λ y z x yl yh zl zh r s. apart y z x (omega arith) (omega arith) (omega arith) (omega arith) r s) in
          let some : one (p a) ≡ 1 = ap one passed in
          omega (arith, c, rest, some, marked)
    ]

-- ---- the elements of a list by their numbers

count-shift : (g : ℕ → Bool) (a n : ℕ) → count g (a + 1) n ≡ count (λ k. g (suc k)) a n
count-shift g a zero = refl
count-shift g a (suc n) =
    let c = count-cons g (a + 1) (range_with_len (a + 1 + 1) n) in
    let d = count-cons (λ k. g (suc k)) a (range_with_len (a + 1) n) in
    let same : one (g (a + 1)) ≡ one (g (suc a)) = ap (λ k. one (g k)) (add-one a) in
    omega (arith, c, d, count-shift g (a + 1) n, same)

pub count-indexed : {X : Type 0} (p : X → Bool) (xs : List X) (d : X) → count_by p xs ≡ count (λ k. p (get_or xs k d)) 0 (length xs)
count-indexed p [] d = refl
count-indexed p (x ∷ xs) d =
    let c = count-cons p x xs in
    let e = count-cons (λ k. p (get_or (x ∷ xs) k d)) 0 (range_with_len (0 + 1) (length xs)) in
    let shift : count (λ k. p (get_or (x ∷ xs) k d)) (0 + 1) (length xs) ≡ count (λ k. p (get_or xs k d)) 0 (length xs) = count-shift (λ k. p (get_or (x ∷ xs) k d)) 0 (length xs) in
    omega (arith, c, e, shift, count-indexed p xs d)
