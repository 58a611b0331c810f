use Rattle.std.proofs.Common.{◌≡◌, ◌+◌, true, length, slice_index_or}
use Rattle.htss_defs.specs.Adjacency.{no_ends}
use Rattle.ring_bonds.specs.Forest.{depth_of}
use Rattle.ring_bonds.specs.Marking.{Grows, IsMarking, flag_of}
use Rattle.ring_bonds.proofs.Tops.{IsClosing}
use Rattle.ring_bonds.proofs.marking.Marking.close.Given as goal

abbrev pub invariant-loop-first : goal.invariant-loop-first
invariant-loop-first l =
    let ends = slice_index_or l.graph.bonds l.bond no_ends in
    record {
      valid : IsMarking l.graph l.self;
      forest : l.self.visits.forest ≡ l.fn.self.visits.forest;
      grows : Grows l.fn.self.flags l.self.flags;
      size : length l.self.flags ≡ 999;
      marked : flag_of l.self.flags l.bond ≡ true;
      closing : IsClosing l.graph l.self.visits.forest l.self.flags l.bond ends.first ends.second l.first l.second;
    }

abbrev pub decreases-loop-first : goal.decreases-loop-first
decreases-loop-first l = depth_of l.self.visits.forest l.first + depth_of l.self.visits.forest l.second
