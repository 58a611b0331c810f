use Rattle.std.proofs.Common.{ℕ, ◌≤◌}
use Rattle.ring_bonds.specs.Visits.{IsUnseen}
use Rattle.ring_bonds.proofs.forest.Visits.clear.Given as goal

abbrev pub invariant-loop-x : goal.invariant-loop-x
invariant-loop-x l = (y : ℕ) → (l.x ≤ y → IsUnseen l.fn.self.forest y) → IsUnseen l.self.forest y
