use Rattle.embed.proofs.Sets.{AreTaken-pop}
use Rattle.embed.proofs.placed.Placed.pop.Goals as goal

pub invariant_of-self : goal.invariant_of-self
invariant_of-self c = AreTaken-pop _ _ _ _ c.in-Some.p c.self.invariant c.in-Some.ensures.items
    c.remove.ensures.removed c.remove.ensures.others
