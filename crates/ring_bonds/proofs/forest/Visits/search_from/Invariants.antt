use Rattle.std.proofs.Common.{◌<◌, ◌≤◌, ◌-◌}
use Rattle.ring_bonds.specs.Forest.{tree_of}
use Rattle.ring_bonds.specs.Visits.{AreVisits, IsLater}
use Rattle.ring_bonds.proofs.forest.Visits.search_from.Given as goal

abbrev pub invariant-loop-head : goal.invariant-loop-head
invariant-loop-head l = record {
  visits : AreVisits l.graph l.self l.head l.root;
  later : IsLater l.fn.self l.self;
  seen : 0 < tree_of l.self.forest l.root;
  within : l.head ≤ l.self.seen;
}

abbrev pub decreases-loop-head : goal.decreases-loop-head
decreases-loop-head l = 1000 - l.head
