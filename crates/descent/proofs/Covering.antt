-- Five codes cover a need where each covers at its level.
use Rattle.std.proofs.Common.{ℕ, zero, suc, ◌<◌, ◌≤◌, get_or, refl, arith}
use Rattle.htss_defs.specs.declared.needs.Need.{Need}
use Rattle.htss_defs.specs.declared.codes.Codes.{Codes}
use Rattle.htss_defs.specs.Codes.{lane}
use Rattle.htss_defs.specs.Needs.{Covers}
use Rattle.board_core.specs.Rows.{codes_of}
use Rattle.env_cover.specs.Reach.{CoversCode}
use Rattle.descent.specs.Sweep.{AllCover}

abbrev of_block : (ℕ → ℕ) → ℕ → Codes
of_block block atom = record { words = codes_of block atom }

pub all_cover : (need : Need) (block : ℕ → ℕ) (atom : ℕ) → Covers need (record { words = codes_of block atom }) → AllCover (CoversCode need) 0 (codes_of block atom)
all_cover need block atom c = (
  ((λ _. c.element), (λ i h. c.lanes 0 i (omega arith) h)),
  (
    ((λ e. absurd (omega arith)), (λ i h. c.lanes 1 i (omega arith) h)),
    (
      ((λ e. absurd (omega arith)), (λ i h. c.lanes 2 i (omega arith) h)),
      (((λ e. absurd (omega arith)), (λ i h. c.lanes 3 i (omega arith) h)), (((λ e. absurd (omega arith)), (λ i h. c.lanes 4 i (omega arith) h)), tt)),
    ),
  ),
)

pub covers_all : (need : Need) (block : ℕ → ℕ) (atom : ℕ) → AllCover (CoversCode need) 0 (codes_of block atom) → Covers need (record { words = codes_of block atom })
covers_all need block atom a = record { element = a.0.0 refl; lanes = λ k i few h. lane_at k i few h }
  where
    lane_at : (k i : ℕ) → k < 5 → i < 8 → lane (get_or need.words k 0) i ≤ lane (get_or (codes_of block atom) k 0) i
    lane_at zero i few h = a.0.1 i h
    lane_at (suc zero) i few h = a.1.0.1 i h
    lane_at (suc (suc zero)) i few h = a.1.1.0.1 i h
    lane_at (suc (suc (suc zero))) i few h = a.1.1.1.0.1 i h
    lane_at (suc (suc (suc (suc zero)))) i few h = a.1.1.1.1.0.1 i h
    lane_at (suc (suc (suc (suc (suc n))))) i few h = absurd (omega arith)
