use Rattle.std.proofs.Common.{◌≡◌, ℕ, ◌-◌, ◌<◌, ◌≤◌, false}
use Rattle.embed.specs.Tests.{may_extend}
use Rattle.embed.proofs.candidates.next_fitting.Given as goal

abbrev pub invariant-loop-p : goal.invariant-loop-p
invariant-loop-p l = record {
  above : l.after ≤ l.p;
  none : (n : ℕ) → l.after < n → n ≤ l.p → may_extend l.target.query.now l.target.mol.now l.map n ≡ false;
}

abbrev pub decreases-loop-p : goal.decreases-loop-p
decreases-loop-p l = l.atoms - l.p
