use Rattle.outside.specs.Memory.{HaveOwnNames}
use Rattle.hostile_tests.proofs.drawn_scripts.drawn_script.Given as goal

abbrev pub invariant-loop-job : goal.invariant-loop-job
invariant-loop-job g l = HaveOwnNames l.told.files.items
