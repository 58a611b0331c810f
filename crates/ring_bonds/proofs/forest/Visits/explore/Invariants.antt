use Rattle.htss_defs.proofs.Chains.{Walked}
use Rattle.ring_bonds.specs.Visits.{AreVisits, IsLater, IsSettled}
use Rattle.ring_bonds.proofs.forest.Visits.explore.Given as goal

abbrev pub invariant-loop-link : goal.invariant-loop-link
invariant-loop-link l = record {
  visits : AreVisits l.graph l.self l.head l.root;
  later : IsLater l.fn.self l.self;
  walked : Walked l.graph.bonds l.place l.link (IsSettled l.graph l.self.forest);
}

abbrev pub decreases-loop-link : goal.decreases-loop-link
decreases-loop-link l = l.link
