use Rattle.std.proofs.Common.{ℕ, ◌≤◌}
use Rattle.report_audit.specs.SoFars.{IsFree}
use Rattle.report_audit.proofs.audit.first_free.Given as goal

abbrev pub invariant-loop-index : goal.invariant-loop-index
invariant-loop-index l = (other : ℕ) → other ≤ l.index → IsFree l.taken other → ⊥
