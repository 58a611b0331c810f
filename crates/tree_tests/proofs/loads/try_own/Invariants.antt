use Rattle.tree_tests.specs.Ready.{IsLoading}
use Rattle.tree_tests.proofs.loads.try_own.Given as goal

abbrev pub invariant-loop-sketch : goal.invariant-loop-sketch
invariant-loop-sketch g l = IsLoading l.board l.loading.caller
