use Rattle.std.proofs.Common.{ℕ, ◌<◌, ◌≤◌}
use Rattle.ring_bonds.specs.Forest.{tree_of}
use Rattle.ring_bonds.specs.Visits.{AreDoneVisits}
use Rattle.ring_bonds.proofs.forest.Visits.search.Given as goal

abbrev pub invariant-loop-root : goal.invariant-loop-root
invariant-loop-root l = record {
  visits : AreDoneVisits l.graph l.self;
  seen : (x : ℕ) → 1 ≤ x → x < l.root → 0 < tree_of l.self.forest x;
}
