-- Whether some atom of a molecule covers a need can be decided.
use Rattle.std.proofs.Common.{ℕ, zero, suc, ◌+◌, ◌-◌, ◌<◌, ◌≤◌, ◌⊎◌, length, refl, subst, inl, inr, arith}
use Rattle.std.specs.Prelude.{Bool, true, false, IsTrue, slice_index}
use Rattle.std.proofs.lemmas.Bool.{cases_lt, false≢true}
use Rattle.htss_defs.specs.declared.codes.Codes.{Codes}
use Rattle.htss_defs.specs.declared.needs.Need.{Need}
use Rattle.htss_defs.specs.Molecule.{Molecule}
use Rattle.htss_defs.specs.Passes.{allows}
use Rattle.htss_defs.specs.Codes.{lane, codes_at}
use Rattle.htss_defs.specs.Needs.{Covers}
use Rattle.env_cover.specs.Screening.{HasCover}

abbrev pub Decision : Type 0 → Type 0
Decision P = P ⊎ (P → ⊥)

decide_true : (b : Bool) → Decision (IsTrue b)
decide_true true = inl refl
decide_true false = inr false≢true

decide_le : (m n : ℕ) → Decision (m ≤ n)
decide_le m n = elim (cases_lt n m) [ inl less ↦ inr (λ le. absurd (omega (arith, less, le))) | inr le ↦ inl le ]

-- whether all numbers below n do
decide_all : (P : ℕ → Type 0) → ((k : ℕ) → Decision (P k)) → (n : ℕ) → Decision ((k : ℕ) → k < n → P k)
decide_all P decide zero = inl (λ k less. absurd (omega (arith, less)))
decide_all P decide (suc n) = elim (decide_all P decide n) [
  | inr some ↦ inr (λ all. some (λ k less. all k (omega (arith, less))))
  | inl below ↦ elim (decide n) [
    | inr last ↦ inr (λ all. last (all n (omega arith)))
    | inl last ↦ inl (λ k less. elim (cases_lt k n) [
      | inl before ↦ below k before
      | inr at ↦ subst P (omega (arith, at, less)) last
    ])
  ]
]

-- whether some number below n does
pub record HasOne (P : ℕ → Type 0) (n : ℕ) : Type 0 where
  pub at : ℕ
  pub within : at < n
  pub does : P at

pub decide_some : (P : ℕ → Type 0) → ((k : ℕ) → Decision (P k)) → (n : ℕ) → Decision (HasOne P n)
decide_some P decide zero = inr (λ one. absurd (omega (arith, one.within)))
decide_some P decide (suc n) = elim (decide n) [
  | inl last ↦ inl (record { at = n; within = omega arith; does = last })
  | inr last ↦ elim (decide_some P decide n) [
    | inl one ↦ inl (record { at = one.at; within = omega (arith, one.within); does = one.does })
    | inr none ↦ inr (λ one. elim (cases_lt one.at n) [
      | inl before ↦ none (record { at = one.at; within = before; does = one.does })
      | inr at ↦ last (subst P (omega (arith, at, one.within)) one.does)
    ])
  ]
]

decide_covers : (need : Need) (codes : Codes) → Decision (Covers need codes)
decide_covers need codes =
    let Lane = λ (k i : ℕ). lane (slice_index need.words k) i ≤ lane (slice_index codes.words k) i in
    elim (decide_true (allows need.test (lane (slice_index codes.words 0) 0))) [
      | inr other ↦ inr (λ covers. other covers.element)
      | inl element ↦ elim (decide_all (λ k. (i : ℕ) → i < 8 → Lane k i) (λ k. decide_all (Lane k) (λ i. decide_le (lane (slice_index need.words k) i) (lane (slice_index codes.words k) i)) 8) 5) [
        | inl lanes ↦ inl (record { element = element; lanes = λ k i few lt. lanes k few i lt })
        | inr less ↦ inr (λ covers. less (λ k few i lt. covers.lanes k i few lt))
      ]
    ]

pub decide_cover : (need : Need) (m : Molecule) → Decision (HasCover need m)
decide_cover need m =
    elim (decide_some (λ k. Covers need (codes_at m (k + 1))) (λ k. decide_covers need (codes_at m (k + 1))) (length m.atoms)) [
      | inl one ↦ inl (record { place = one.at + 1; within = (omega arith, omega (arith, one.within)); covers = one.does })
      | inr none ↦ inr (λ has. none (record {
        at = has.place - 1;
        within = omega (arith, has.within.0, has.within.1);
        does = subst (λ x. Covers need (codes_at m x)) (omega (arith, has.within.0)) has.covers;
      }))
    ]
