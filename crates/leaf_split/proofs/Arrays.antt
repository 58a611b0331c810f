-- Arrays of words as functions.
use Rattle.std.proofs.Common.{◌≡◌, ◌≢◌, ℕ, ◌+◌, ◌*◌, ◌<◌, ◌⊎◌, Bool, true, false, ltb, cond, List, length, get_or, set, refl, ◌∙◌, arith, inl, inr, ⊎_elim, lt-ltb, ltb-true, get_or-set_same, get_or-set_other}
use Rattle.std.proofs.Math.ListN.{replicate, get_or-eq_default}
use Rattle.std.proofs.lemmas.List.{get_or-replicate, length-replicate}
use Rattle.std.proofs.lemmas.Bool.{cases_lt}
use Rattle.leaf_split.specs.Groups.{IsStored}
use Rattle.board_core.specs.Turns.{IsPut}
use Rattle.leaf_split.specs.Groups.{entry_of}

pub stored : (xs : List ℕ) (i n : ℕ) → i < length xs → IsStored (λ j. get_or xs j 0) (λ j. get_or (set xs i n) j 0) i n
stored xs i n l = record { here = get_or-set_same xs i n 0 l; others = λ j o. get_or-set_other xs i j n 0 o }

other_place : (p q i j : ℕ) → i < 14 → j < 14 → (q ≢ p) ⊎ (j ≢ i) → 14 * q + j ≢ 14 * p + i
other_place p q i j a b o e = ⊎_elim (λ (y : q ≢ p). y (omega arith)) (λ (y : j ≢ i). y (omega arith)) o

same : (a : Bool) (x y : ℕ) → (a ≡ true → x ≡ y) → cond a x 0 ≡ cond a y 0
same true x y h = h refl
same false x y h = refl

pub put : (es : List ℕ) (j i n : ℕ) → i < 14 → 14 * j + i < length es → IsPut (entry_of es) (entry_of (set es (14 * j + i) n)) j i n
put es j i n a l = record {
  here = (λ z. cond (lt-ltb i 14 a z) (get_or (set es (14 * j + i) n) (14 * j + i) 0) 0) ∙ get_or-set_same es (14 * j + i) n 0 l;
  others = λ q k o. same (ltb k 14) _ _ (λ d. get_or-set_other es (14 * j + i) (14 * q + k) n 0 (other_place j q i k a (ltb-true k 14 d) o));
}

none : (a : Bool) → cond {A = ℕ} a 0 0 ≡ 0
none true = refl
none false = refl

pub zeros : (n i : ℕ) → get_or (replicate {A = ℕ} n 0) i 0 ≡ 0
zeros n i = elim (cases_lt i n) [
  | inl y ↦ get_or-replicate n i 0 0 y
  | inr y ↦ get_or-eq_default (replicate {A = ℕ} n 0) 0 (rw length-replicate y)
]

pub no_entries : (n j i : ℕ) → entry_of (replicate {A = ℕ} n 0) j i ≡ 0
no_entries n j i = same (ltb i 14) (get_or (replicate {A = ℕ} n 0) (14 * j + i) 0) 0 (λ d. zeros n (14 * j + i)) ∙ none (ltb i 14)
