use Rattle.ring_bonds.proofs.marking.ring_flags.Goals as goal

pub returns : goal.returns
returns c = c.mark_all.ensures.rings
