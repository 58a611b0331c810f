use Rattle.env_code.proofs.Steps.{IsCounted}
use Rattle.env_code.proofs.walk.near_words.Given as goal

abbrev pub invariant-loop-k : goal.invariant-loop-k
invariant-loop-k l = IsCounted l.graph l.lanes l.walk l.words l.place l.k l.head
