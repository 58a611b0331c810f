-- Whether a molecule is screened for a query can be decided.
use Rattle.std.proofs.Common.{ℕ, ◌+◌, ◌-◌, ◌<◌, ◌≤◌, length, subst, inl, inr, arith}
use Rattle.std.proofs.lemmas.Bool.{cases_lt}
use Rattle.htss_defs.specs.Molecule.{Molecule}
use Rattle.htss_defs.specs.QueryGraph.{QueryGraph}
use Rattle.htss_defs.specs.Codes.{codes_at}
use Rattle.htss_defs.specs.Needs.{Covers, need_at}
use Rattle.htss_defs.specs.Screened.{IsPivot, IsScreened, weight}
use Rattle.env_cover.specs.Screening.{HasCover}
use Rattle.env_cover.proofs.Deciding.{Decision, HasOne, decide_some, decide_cover}

decide_not : (P : Type 0) → Decision P → Decision (P → ⊥)
decide_not P decide = elim decide [ inl is ↦ inr (λ none. none is) | inr none ↦ inl none ]

-- whether all numbers below n do
decide_all : (P : ℕ → Type 0) → ((k : ℕ) → Decision (P k)) → (n : ℕ) → Decision ((k : ℕ) → k < n → P k)
decide_all P decide n = elim (decide_some (λ k. P k → ⊥) (λ k. decide_not (P k) (decide k)) n) [
  | inl one ↦ inr (λ all. one.does (all one.at one.within))
  | inr none ↦ inl (λ k less. elim (decide k) [ inl is ↦ is | inr not_it ↦ absurd (none (record { at = k; within = less; does = not_it })) ])
]

decide_le : (m n : ℕ) → Decision (m ≤ n)
decide_le m n = elim (cases_lt n m) [ inl less ↦ inr (λ le. absurd (omega (arith, less, le))) | inr le ↦ inl le ]

-- the atom at u + 1 is the pivot
decide_pivot : (q : QueryGraph) (u : ℕ) → u < length q.atoms → Decision (IsPivot q (u + 1))
decide_pivot q u within = elim (decide_all (λ k. weight q (k + 1) ≤ weight q (u + 1)) (λ k. decide_le (weight q (k + 1)) (weight q (u + 1))) (length q.atoms)) [
  | inr greater ↦ inr (λ is. greater (λ k less. is.greatest (k + 1) (omega arith) (omega (arith, less))))
  | inl greatest ↦ elim (decide_all (λ k. weight q (k + 1) + 1 ≤ weight q (u + 1)) (λ k. decide_le (weight q (k + 1) + 1) (weight q (u + 1))) u) [
    | inr earlier ↦ inr (λ is. earlier (λ k less. omega (arith, is.first (k + 1) (omega arith) (omega (arith, less)))))
    | inl first ↦ inl (record {
      place = (omega arith, omega (arith, within));
      greatest = λ v some most. subst (λ (x : ℕ). weight q x ≤ weight q (u + 1)) (omega (arith, some)) (greatest (v - 1) (omega (arith, some, most)));
      first = λ v some less.
          let one : weight q (v - 1 + 1) < weight q (u + 1) = omega (arith, first (v - 1) (omega (arith, some, less))) in
          subst (λ (x : ℕ). weight q x < weight q (u + 1)) (omega (arith, some)) one;
    })
  ]
]

-- it is, and an atom covers its need
record MayStart (q : QueryGraph) (m : Molecule) (u : ℕ) : Type 0 where
  within : u < length q.atoms
  is_pivot : IsPivot q (u + 1)
  has : HasCover (need_at q (u + 1)) m

decide_start : (q : QueryGraph) (m : Molecule) (u : ℕ) → Decision (MayStart q m u)
decide_start q m u = elim (cases_lt u (length q.atoms)) [
  | inr over ↦ inr (λ is. absurd (omega (arith, over, is.within)))
  | inl within ↦ elim (decide_pivot q u within) [
    | inr other ↦ inr (λ is. other is.is_pivot)
    | inl is_pivot ↦ elim (decide_cover (need_at q (u + 1)) m) [
      | inr none ↦ inr (λ is. none is.has)
      | inl has ↦ inl (record { within = within; is_pivot = is_pivot; has = has })
    ]
  ]
]

pub decide_screened : (q : QueryGraph) (m : Molecule) → Decision (IsScreened q m)
decide_screened q m = elim (decide_some (MayStart q m) (decide_start q m) (length q.atoms)) [
  | inl one ↦ inl (record { pivot = one.at + 1; is_pivot = one.does.is_pivot; place = one.does.has.place; within = one.does.has.within; covers = one.does.has.covers })
  | inr none ↦ inr (λ is.
      none (record {
        at = is.pivot - 1;
        within = omega (arith, is.is_pivot.place.0, is.is_pivot.place.1);
        does = record {
          within = omega (arith, is.is_pivot.place.0, is.is_pivot.place.1);
          is_pivot = subst (IsPivot q) (omega (arith, is.is_pivot.place.0)) is.is_pivot;
          has = record {
            place = is.place;
            within = is.within;
            covers = subst (λ (x : ℕ). Covers (need_at q x) (codes_at m is.place)) (omega (arith, is.is_pivot.place.0)) is.covers;
          };
        };
      }))
]
