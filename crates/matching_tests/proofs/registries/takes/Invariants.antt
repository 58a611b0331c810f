use Rattle.reg_model.specs.Registries.{AreMarked}
use Rattle.matching_tests.proofs.registries.takes.Given as goal

abbrev pub invariant-loop-step : goal.invariant-loop-step
invariant-loop-step l = AreMarked l.fn.registry.events → AreMarked l.registry.events
