use Rattle.outside.specs.Memory.{HaveOwnNames}
use Rattle.hostile_tests.proofs.beside.add_loads.Given as goal

abbrev pub invariant-loop-place : goal.invariant-loop-place
invariant-loop-place g l = HaveOwnNames l.plan.files.items
