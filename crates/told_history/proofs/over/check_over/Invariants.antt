use Rattle.told_history.proofs.Weighed.{Weighs}
use Rattle.told_history.proofs.over.check_over.Given as goal

abbrev pub invariant-loop-index : goal.invariant-loop-index
invariant-loop-index l = Weighs l.told l.query l.front l.budget l.index l.weighing.matcher l.weighing.left
