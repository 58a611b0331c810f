-- Which atom of a query is looked for first, and which molecules have an atom that may stand for it
-- (this project's own).
use Rattle.std.specs.Prelude.{ℕ, ◌<◌, ◌≤◌, length, sum_by}
use Rattle.std.specs.List.{range_with_len}
use Rattle.htss_defs.specs.Molecule.{Molecule}
use Rattle.htss_defs.specs.QueryGraph.{QueryGraph}
use Rattle.htss_defs.specs.Codes.{lane, codes_at}
use Rattle.htss_defs.specs.Needs.{need_word, need_at, Covers}

abbrev pub lane_sum : ℕ → ℕ
lane_sum word = sum_by (lane word) (range_with_len 0 8)

-- how much the need of an atom asks of the widest neighbourhood
abbrev pub weight : QueryGraph → ℕ → ℕ
weight q u = lane_sum (need_word q 4 u)

-- the atom of the greatest weight, the first of several
pub record IsPivot (q : QueryGraph) (u : ℕ) : Type 0 where
  pub place : (1 ≤ u) × (u ≤ length q.atoms)
  pub greatest : (v : ℕ) → 1 ≤ v → v ≤ length q.atoms → weight q v ≤ weight q u
  pub first : (v : ℕ) → 1 ≤ v → v < u → weight q v < weight q u

-- some atom of the molecule covers the need of the pivot
pub record IsScreened (q : QueryGraph) (m : Molecule) : Type 0 where
  pub pivot : ℕ
  pub is_pivot : IsPivot q pivot
  pub place : ℕ
  pub within : (1 ≤ place) × (place ≤ length m.atoms)
  pub covers : Covers (need_at q pivot) (codes_at m place)
