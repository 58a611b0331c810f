use Rattle.outside.specs.Memory.{HaveOwnNames}
use Rattle.reg_model.specs.Registries.{AreMarked}
use Rattle.hostile_tests.proofs.differences.load.Given as goal

abbrev pub invariant-loop-place : goal.invariant-loop-place
invariant-loop-place g l = record {
  marked : AreMarked l.story.registry.events;
  names : HaveOwnNames l.story.files.items;
}
