use Rattle.std.proofs.Common.{◌≡◌, ℕ, ◌≤◌, false}
use Rattle.ring_bonds.specs.Marking.{flag_of}
use Rattle.ring_bonds.proofs.marking.lower_flags.Given as goal

abbrev pub invariant-loop-bond : goal.invariant-loop-bond
invariant-loop-bond l = (k : ℕ) → (l.bond ≤ k → flag_of l.fn.flags k ≡ false) → flag_of l.flags k ≡ false
