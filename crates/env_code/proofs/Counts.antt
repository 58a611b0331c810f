-- How many numbers of a stretch pass a test.
use Rattle.std.proofs.Common.{◌≡◌, ◌≢◌, ℕ, zero, suc, ◌+◌, ◌-◌, ◌<◌, ◌≤◌, Bool, true, false, ◌&&◌, ◌||◌, cond, List, [], ◌∷◌, length, get_or, map, refl, sym, ap, ◌∙◌, inl, inr, arith}
use Rattle.std.specs.List.{count_by, list_any, range_with_len}
use Rattle.std.proofs.lemmas.Bool.{cases_eq, or_cases}
use Rattle.std.proofs.lemmas.List.Sums.{sum_by-cons, count_by-le-length}
use Rattle.std.proofs.lemmas.List.FromFn.{length-range_with_len, get_or-range_with_len}
use Rattle.std.proofs.lemmas.List.Folds.{list_any_at}
use Rattle.htss_defs.specs.declared.graph.Ends.{Ends}
use Rattle.htss_defs.specs.Distances.{is_end}

pub or_false : (b : Bool) → (b || false) ≡ b
or_false true = refl
or_false false = refl

pub and_true : (b : Bool) → (b && true) ≡ b
and_true true = refl
and_true false = refl

-- what one number counts
abbrev pub one : Bool → ℕ
one b = cond b 1 0

pub count-cons : {X : Type 0} (p : X → Bool) (x : X) (xs : List X) → count_by p (x ∷ xs) ≡ one (p x) + count_by p xs
count-cons p x xs = sum_by-cons (λ y. one (p y)) x xs

-- from a on, n numbers
abbrev pub count : (ℕ → Bool) → ℕ → ℕ → ℕ
count p a n = count_by p (range_with_len a n)

-- tests that agree there
pub count-congr : (p q : ℕ → Bool) (a n : ℕ) → ((y : ℕ) → a ≤ y → y < a + n → p y ≡ q y) → count p a n ≡ count q a n
count-congr p q a zero same = refl
count-congr p q a (suc n) same =
    let here : p a ≡ q a = same a (omega arith) (omega arith) in
    let rest : count p (a + 1) n ≡ count q (a + 1) n = count-congr p q (a + 1) n (λ y low high. same y (omega arith) (omega arith)) in
    count-cons p a (range_with_len (a + 1) n) ∙ ap (λ b. one b + count p (a + 1) n) here ∙ ap (λ c. one (q a) + c) rest ∙ sym (count-cons q a (range_with_len (a + 1) n))

-- one more number passes
pub count-mark : (p q : ℕ → Bool) (a n x : ℕ) → a ≤ x → x < a + n → p x ≡ false → q x ≡ true → ((y : ℕ) → y ≢ x → q y ≡ p y) → count q a n ≡ count p a n + 1
count-mark p q a zero x low high before after others = absurd (omega arith)
count-mark p q a (suc n) x low high before after others =
    let c = count-cons p a (range_with_len (a + 1) n) in
    let d = count-cons q a (range_with_len (a + 1) n) in
    elim (cases_eq a x) [
      | inl here ↦
          let rest : count q (a + 1) n ≡ count p (a + 1) n = count-congr q p (a + 1) n (λ y le lt. others y (λ is. omega arith)) in
          let was : one (p a) ≡ 0 = ap (λ y. one (p y)) here ∙ ap one before in
          let now : one (q a) ≡ 1 = ap (λ y. one (q y)) here ∙ ap one after in
          omega (arith, c, d, rest, was, now)
      | inr there ↦
          let rest : count q (a + 1) n ≡ count p (a + 1) n + 1 = count-mark p q (a + 1) n x (omega arith) (omega arith) before after others in
          let same : one (q a) ≡ one (p a) = ap one (others a there) in
          omega (arith, c, d, rest, same)
    ]

pub count-le : (p : ℕ → Bool) (a n : ℕ) → count p a n ≤ n
count-le p a n = omega (arith, count_by-le-length p (range_with_len a n), length-range_with_len a n)

pub count-none : (p : ℕ → Bool) (a n : ℕ) → ((y : ℕ) → p y ≡ false) → count p a n ≡ 0
count-none p a zero none = refl
count-none p a (suc n) none =
    let here : one (p a) ≡ 0 = ap one (none a) in
    omega (arith, count-cons p a (range_with_len (a + 1) n), count-none p (a + 1) n none, here)

-- ---- some number passes

pub any-at : (p : ℕ → Bool) (a n x : ℕ) → a ≤ x → x < a + n → p x ≡ true → list_any p (range_with_len a n) ≡ true
any-at p a n x low high pass =
    let here : get_or (range_with_len a n) (x - a) 0 ≡ x = get_or-range_with_len a n (x - a) 0 (omega arith) ∙ omega arith in
    list_any_at p (range_with_len a n) (x - a) 0 (omega (arith, length-range_with_len a n)) (ap p here ∙ pass)

pub any-from : (p : ℕ → Bool) (a n : ℕ) → list_any p (range_with_len a n) ≡ true → (x : ℕ) × (a ≤ x) × (x < a + n) × (p x ≡ true)
any-from p a zero some = absurd cc
any-from p a (suc n) some = elim (or_cases (p a) (list_any p (range_with_len (a + 1) n)) some) [
  | inl here ↦ (a, omega arith, omega arith, here)
  | inr there ↦ (let r = any-from p (a + 1) n there in (r.0, omega (arith, r.1), omega (arith, r.2), r.3))
]

-- where an element of a list that passes stands
pub list_any-at : {X : Type 0} (p : X → Bool) (xs : List X) (d : X) → list_any p xs ≡ true → (k : ℕ) × (k < length xs) × (p (get_or xs k d) ≡ true)
list_any-at p [] d some = absurd cc
list_any-at p (x ∷ xs) d some = elim (or_cases (p x) (list_any p xs) some) [
  | inl here ↦ (0, omega arith, here)
  | inr there ↦ (let r = list_any-at p xs d there in (suc r.0, omega (arith, r.1), r.2))
]

-- ---- ends of bonds

pub ends-map : {X : Type 0} (ends : X → Ends) (xs : List X) (x : ℕ) → count_by (λ e. is_end e x) (map ends xs) ≡ count_by (λ b. is_end (ends b) x && true) xs
ends-map ends [] x = refl
ends-map ends (b ∷ bs) x =
    let here : one (is_end (ends b) x) ≡ one (is_end (ends b) x && true) = ap one (sym (and_true (is_end (ends b) x))) in
    let c = count-cons (λ e. is_end e x) (ends b) (map ends bs) in
    let d = count-cons (λ a. is_end (ends a) x && true) b bs in
    let rest = ends-map ends bs x in
    omega (arith, here, c, d, rest)
