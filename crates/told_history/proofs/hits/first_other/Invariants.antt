use Rattle.std.proofs.Common.{◌≡◌, take}
use Rattle.told_history.proofs.hits.first_other.Given as goal

abbrev pub invariant-loop-index : goal.invariant-loop-index
invariant-loop-index l = take l.index l.hits ≡ take l.index l.all
