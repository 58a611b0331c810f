use Rattle.outside.specs.Memory.{HaveOwnNames}
use Rattle.htss_top.proofs.run_tests.files_with.Given as goal

abbrev pub invariant-loop-given : goal.invariant-loop-given
invariant-loop-given g l = HaveOwnNames l.files.items
