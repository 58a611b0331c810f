-- The atom of the greatest weight, and weights.
use Rattle.std.proofs.Common.{◌≡◌, ℕ, ◌+◌, ◌<◌, ◌≤◌, length, sum, ap, ◌∙◌, inl, inr, arith, take}
use Rattle.std.proofs.lemmas.Bool.{cases_eq}
use Rattle.std.specs.Int.{to_le_bytes, w64}
use Rattle.htss_defs.specs.QueryGraph.{QueryGraph}
use Rattle.htss_defs.specs.Screened.{IsPivot, lane_sum, weight}
use Rattle.std.proofs.lemmas.List.{take_all}

-- the best of the atoms below `next`
pub record IsBest (q : QueryGraph) (u greatest next : ℕ) : Type 0 where
  pub low : 1 ≤ u
  pub high : u ≤ length q.atoms
  pub before : u < next
  pub is : greatest ≡ weight q u
  pub all : (v : ℕ) → 1 ≤ v → v < next → weight q v ≤ greatest
  pub first : (v : ℕ) → 1 ≤ v → v < u → weight q v < greatest

pub IsBest-start : (q : QueryGraph) (greatest : ℕ) → 1 ≤ length q.atoms → greatest ≡ weight q 1 → IsBest q 1 greatest 2
IsBest-start q greatest some is = record {
  low = omega arith;
  high = some;
  before = omega arith;
  is = is;
  all = λ v low less. (let one_only : v ≡ 1 = omega arith in let same : weight q v ≡ weight q 1 = ap (weight q) one_only in omega (arith, same, is));
  first = λ v low less. absurd (omega arith);
}

-- the next one is greater
pub IsBest-greater : (q : QueryGraph) (u greatest next now : ℕ) → IsBest q u greatest next → next ≤ length q.atoms → now ≡ weight q next → greatest < now → IsBest q next now (next + 1)
IsBest-greater q u greatest next now b within is more = record {
  low = omega (arith, b.before);
  high = within;
  before = omega arith;
  is = is;
  all = λ v low less. elim (cases_eq v next) [
    | inl last ↦ (let same : weight q v ≡ weight q next = ap (weight q) last in omega (arith, same, is))
    | inr earlier ↦ omega (arith, b.all v low (omega arith))
  ];
  first = λ v low less. omega (arith, b.all v low less);
}

-- the next one is not
pub IsBest-kept : (q : QueryGraph) (u greatest next now : ℕ) → IsBest q u greatest next → now ≡ weight q next → now ≤ greatest → IsBest q u greatest (next + 1)
IsBest-kept q u greatest next now b is le = record {
  low = b.low;
  high = b.high;
  before = omega (arith, b.before);
  is = b.is;
  all = λ v low less. elim (cases_eq v next) [
    | inl last ↦ (let same : weight q v ≡ weight q next = ap (weight q) last in omega (arith, same, is))
    | inr earlier ↦ b.all v low (omega arith)
  ];
  first = b.first;
}

pub IsPivot-of : (q : QueryGraph) (u greatest next : ℕ) → IsBest q u greatest next → length q.atoms < next → IsPivot q u
IsPivot-of q u greatest next b end = record {
  place = (b.low, b.high);
  greatest = λ v low high. omega (arith, b.is, b.all v low (omega arith));
  first = λ v low less. omega (arith, b.is, b.first v low less);
}

-- the bytes of a word are its lanes
pub lane_sum-bytes : (w : ℕ) → sum (to_le_bytes w64 w) ≡ lane_sum w
lane_sum-bytes w = omega arith

pub take-eight : (w n : ℕ) → 8 ≤ n → sum (take n (to_le_bytes w64 w)) ≡ lane_sum w
take-eight w n le = ap sum (take_all n (to_le_bytes w64 w) le) ∙ lane_sum-bytes w
