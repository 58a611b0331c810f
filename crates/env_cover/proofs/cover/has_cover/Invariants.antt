use Rattle.std.proofs.Common.{ℕ, ◌≤◌, ◌<◌}
use Rattle.htss_defs.specs.Codes.{codes_at}
use Rattle.htss_defs.specs.Needs.{Covers}
use Rattle.env_code.specs.Coders.{IsCoder}
use Rattle.env_cover.proofs.cover.has_cover.Given as goal

abbrev pub invariant-loop-atom : goal.invariant-loop-atom
invariant-loop-atom l = record {
  loaded : IsCoder l.mol l.coder;
  none : (place : ℕ) → 1 ≤ place → place < l.atom → Covers l.need (codes_at l.mol place) → ⊥;
}
