use Rattle.std.proofs.Common.{◌∙◌}
use Rattle.std.proofs.lemmas.List.{length-set}
use Rattle.ring_bonds.proofs.Tops.{AreTops-halve, IsClimb-halve, IsTop-of}
use Rattle.ring_bonds.proofs.marking.Marking.top_of.Goals as goal

pub loop-self-preserved : goal.loop-self-preserved
loop-self-preserved c =
    let inv = c.loop-self.invariant in
    record {
      forest = inv.forest;
      flags = inv.flags;
      tops = AreTops-halve _ _ _ _ inv.tops inv.climb.within c.loop-self-test.true inv.size;
      size = length-set c.loop-self.self.tops _ _ ∙ inv.size;
      climb = IsClimb-halve _ _ _ _ _ inv.tops inv.climb;
    }

pub returns-clause-top : goal.returns-clause-top
returns-clause-top c = IsTop-of _ _ _ _ _ c.loop-self.invariant.tops c.loop-self.invariant.climb c.loop-self-test.false
