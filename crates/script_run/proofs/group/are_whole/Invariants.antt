use Rattle.std.proofs.Common.{◌≡◌, All, take, true}
use Rattle.script_run.proofs.group.are_whole.Given as goal

abbrev pub invariant-loop-outcome : goal.invariant-loop-outcome
invariant-loop-outcome l = All (λ o. o.whole ≡ true) (take l.outcome-index l.outcomes)
