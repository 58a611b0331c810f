use Rattle.outside.specs.Memory.{HaveOwnNames}
use Rattle.reg_model.specs.Registries.{AreMarked}
use Rattle.hostile_tests.proofs.differences.story_of.Given as goal

abbrev pub invariant-loop-job : goal.invariant-loop-job
invariant-loop-job g l = record {
  marked : AreMarked l.story.registry.events;
  names : HaveOwnNames l.story.files.items;
}
