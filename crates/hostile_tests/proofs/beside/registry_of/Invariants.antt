use Rattle.reg_model.specs.Registries.{AreMarked}
use Rattle.hostile_tests.proofs.beside.registry_of.Given as goal

abbrev pub invariant-loop-line : goal.invariant-loop-line
invariant-loop-line g l = AreMarked l.registry.events
