use Rattle.std.proofs.Common.{ℕ, ◌<◌, get_or}
use Rattle.env_cover.specs.Reach.{Reaches}
use Rattle.env_cover.proofs.cover.reach_all.Given as goal

abbrev pub invariant-loop-k : goal.invariant-loop-k
invariant-loop-k l = (j : ℕ) → j < l.k → Reaches (get_or l.needs j 0) (get_or l.codes j 0)
