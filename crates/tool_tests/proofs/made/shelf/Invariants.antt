use Rattle.outside.specs.Memory.{HaveOwnNames}
use Rattle.tool_tests.proofs.made.shelf.Given as goal

abbrev pub invariant-loop-given : goal.invariant-loop-given
invariant-loop-given g l = HaveOwnNames l.files.items
