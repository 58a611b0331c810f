use Rattle.env_code.specs.Coders.{IsCoder}
use Rattle.matching_tests.proofs.covers.are_covering.Given as goal

abbrev pub invariant-loop-atom : goal.invariant-loop-atom
invariant-loop-atom l = IsCoder l.fn.mol l.coder
