use Rattle.std.proofs.Common.{ℕ, List}
use Rattle.htss_defs.specs.Molecule.{Molecule}
use Rattle.told_history.proofs.LogChecks.{AreSound}
use Rattle.told_history.proofs.log.first_broken.Given as goal

abbrev pub invariant-loop-event : goal.invariant-loop-event
invariant-loop-event l = (named : List (ℕ × Molecule)) → AreSound l.shape l.events l.event-index l.withdrawals.items named
