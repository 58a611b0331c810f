use Rattle.outside.specs.Memory.{HaveOwnNames}
use Rattle.hostile_tests.proofs.beside.add_records.Given as goal

abbrev pub invariant-loop-record : goal.invariant-loop-record
invariant-loop-record g l = HaveOwnNames l.plan.files.items
