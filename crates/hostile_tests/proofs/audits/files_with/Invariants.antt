use Rattle.outside.specs.Memory.{HaveOwnNames}
use Rattle.hostile_tests.proofs.audits.files_with.Given as goal

abbrev pub invariant-loop-place : goal.invariant-loop-place
invariant-loop-place g l = HaveOwnNames l.files.items
