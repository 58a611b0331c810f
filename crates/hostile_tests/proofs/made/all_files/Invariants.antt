use Rattle.outside.specs.Memory.{HaveOwnNames}
use Rattle.hostile_tests.proofs.made.all_files.Given as goal

abbrev pub invariant-loop-one : goal.invariant-loop-one
invariant-loop-one g l = HaveOwnNames l.files.items
