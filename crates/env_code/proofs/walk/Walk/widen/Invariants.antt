use Rattle.env_code.specs.Walks.{IsWalk, IsLater}
use Rattle.env_code.proofs.Steps.{IsWidened}
use Rattle.env_code.proofs.walk.Walk.widen.Given as goal

abbrev pub invariant-loop-index : goal.invariant-loop-index
invariant-loop-index l = record {
  walk : IsWalk l.graph l.lanes l.self;
  later : IsLater l.fn.self l.self;
  widened : IsWidened l.graph l.fn.self l.self l.head l.index;
}
