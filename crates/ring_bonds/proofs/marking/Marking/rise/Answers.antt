use Rattle.std.proofs.Common.{arith}
use Rattle.ring_bonds.proofs.Tops.{AreTops-rise}
use Rattle.ring_bonds.proofs.marking.Marking.rise.Goals as goal

pub top_of-requires-clause-tops : goal.top_of-requires-clause-tops
top_of-requires-clause-tops c = AreTops-rise _ _ _ _ c.requires.rises c.requires.tops c.requires.within c.requires.above (omega arith) (omega arith)
