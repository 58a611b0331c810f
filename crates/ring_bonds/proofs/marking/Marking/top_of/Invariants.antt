use Rattle.std.proofs.Common.{◌≡◌, length}
use Rattle.ring_bonds.specs.Forest.{depth_of}
use Rattle.ring_bonds.specs.Marking.{AreTops, IsClimb}
use Rattle.ring_bonds.proofs.marking.Marking.top_of.Given as goal

abbrev pub invariant-loop-self : goal.invariant-loop-self
invariant-loop-self l = record {
  forest : l.self.visits.forest ≡ l.fn.self.visits.forest;
  flags : l.self.flags ≡ l.fn.self.flags;
  tops : AreTops l.self.visits.forest l.self.flags l.self.tops;
  size : length l.self.tops ≡ 1000;
  climb : IsClimb l.self.visits.forest l.self.flags l.place l.at;
}

abbrev pub decreases-loop-self : goal.decreases-loop-self
decreases-loop-self l = depth_of l.self.visits.forest l.at
