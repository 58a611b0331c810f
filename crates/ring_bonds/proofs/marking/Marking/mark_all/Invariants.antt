use Rattle.std.proofs.Common.{ℕ, ◌<◌}
use Rattle.ring_bonds.specs.Marking.{AreDone, IsMarking}
use Rattle.ring_bonds.specs.Visits.{IsUnseen}
use Rattle.ring_bonds.proofs.marking.Marking.mark_all.Given as goal

abbrev pub invariant-loop-bond : goal.invariant-loop-bond
invariant-loop-bond l = record {
  valid : IsMarking l.graph l.self;
  done : AreDone l.graph l.self.visits.forest l.self.flags l.bond;
  places : (x : ℕ) → l.graph.atoms < x → IsUnseen l.self.visits.forest x;
}
