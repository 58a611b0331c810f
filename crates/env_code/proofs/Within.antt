-- Which places are within a distance of a place.
use Rattle.std.proofs.Common.{◌≡◌, ◌⊎◌, ℕ, suc, ◌+◌, ◌≤◌, true, ◌&&◌, eqb, refl, sym, ap, ◌∙◌, inl, inr, arith}
use Rattle.std.proofs.lemmas.Bool.{cases_lt, and_from, and_parts, eq-eqb, eqb-true}
use Rattle.htss_defs.specs.Graph.{Graph}
use Rattle.htss_defs.specs.Distances.{are_bonded, has_walk, is_within}
use Rattle.env_code.proofs.Counts.{any-at, any-from}

-- ---- walks

walk-none : (g : Graph) (x y : ℕ) → has_walk g 0 x y ≡ eqb x y
unfolding has_walk
walk-none g x y = refl

walk-step : (g : Graph) (n x z y : ℕ) → has_walk g n x z ≡ true → are_bonded g z y ≡ true → 1 ≤ z → z ≤ g.atoms → has_walk g (suc n) x y ≡ true
unfolding has_walk
walk-step g n x z y there bonded low high =
    any-at (λ v. has_walk g n x v && are_bonded g v y) 1 g.atoms z low (omega arith) (and_from (has_walk g n x z) (are_bonded g z y) there bonded)

-- a place before y on a walk
pub record IsBefore (g : Graph) (n x y : ℕ) : Type 0 where
  pub place : ℕ
  pub within : (1 ≤ place) × (place ≤ g.atoms)
  pub walk : has_walk g n x place ≡ true
  pub bonded : are_bonded g place y ≡ true

walk-back : (g : Graph) (n x y : ℕ) → has_walk g (suc n) x y ≡ true → IsBefore g n x y
unfolding has_walk
walk-back g n x y walk =
    let r = any-from (λ v. has_walk g n x v && are_bonded g v y) 1 g.atoms walk in
    let b = and_parts (has_walk g n x r.0) (are_bonded g r.0 y) r.3 in
    record { place = r.0; within = (r.1, omega (arith, r.2)); walk = b.0; bonded = b.1 }

-- ---- distances

within-of : (g : Graph) (k n x y : ℕ) → n ≤ k → has_walk g n x y ≡ true → is_within g k x y ≡ true
unfolding is_within
within-of g k n x y few walk = any-at (λ m. has_walk g m x y) 0 (k + 1) n (omega arith) (omega arith) walk

-- a walk of few bonds
record IsShort (g : Graph) (k x y : ℕ) : Type 0 where
  bonds : ℕ
  few : bonds ≤ k
  walk : has_walk g bonds x y ≡ true

within-from : (g : Graph) (k x y : ℕ) → is_within g k x y ≡ true → IsShort g k x y
unfolding is_within
within-from g k x y within =
    let r = any-from (λ m. has_walk g m x y) 0 (k + 1) within in
    record { bonds = r.0; few = omega (arith, r.2); walk = r.3 }

-- only x is at distance 0
pub within-none : (g : Graph) (x y : ℕ) → is_within g 0 x y ≡ true → x ≡ y
within-none g x y within =
    let s : IsShort g 0 x y = within-from g 0 x y within in
    let none : s.bonds ≡ 0 = omega (arith, s.few) in
    eqb-true x y (sym (walk-none g x y) ∙ ap (λ n. has_walk g n x y) (sym none) ∙ s.walk)

pub within-itself : (g : Graph) (k x : ℕ) → is_within g k x x ≡ true
within-itself g k x = within-of g k 0 x x (omega arith) (walk-none g x x ∙ eq-eqb x x refl)

pub within-more : (g : Graph) (k x y : ℕ) → is_within g k x y ≡ true → is_within g (k + 1) x y ≡ true
within-more g k x y within =
    let s : IsShort g k x y = within-from g k x y within in
    within-of g (k + 1) s.bonds x y (omega (arith, s.few)) s.walk

-- one bond further
pub within-step : (g : Graph) (k x z y : ℕ) → is_within g k x z ≡ true → are_bonded g z y ≡ true → 1 ≤ z → z ≤ g.atoms → is_within g (k + 1) x y ≡ true
within-step g k x z y within bonded low high =
    let s : IsShort g k x z = within-from g k x z within in
    within-of g (k + 1) (suc s.bonds) x y (omega (arith, s.few)) (walk-step g s.bonds x z y s.walk bonded low high)

-- the last place before y
pub record IsBeyond (g : Graph) (k x y : ℕ) : Type 0 where
  pub place : ℕ
  pub low : 1 ≤ place
  pub high : place ≤ g.atoms
  pub within : is_within g k x place ≡ true
  pub bonded : are_bonded g place y ≡ true

pub within-cases : (g : Graph) (k x y : ℕ) → is_within g (k + 1) x y ≡ true → (is_within g k x y ≡ true) ⊎ IsBeyond g k x y
within-cases g k x y within =
    let s : IsShort g (k + 1) x y = within-from g (k + 1) x y within in
    elim (cases_lt k s.bonds) [
      | inr few ↦ inl (within-of g k s.bonds x y few s.walk)
      | inl last ↦
          let is : s.bonds ≡ suc k = omega (arith, s.few) in
          let b : IsBefore g k x y = walk-back g k x y (ap (λ n. has_walk g n x y) (sym is) ∙ s.walk) in
          inr (record { place = b.place; low = b.within.0; high = b.within.1; within = within-of g k k x b.place (omega arith) b.walk; bonded = b.bonded })
    ]
