use Rattle.std.proofs.Common.{inl, refl}
use Rattle.board.proofs.recall.reach_again.Goals as goal

pub recall_of-requires-clause-may : goal.recall_of-requires-clause-may
recall_of-requires-clause-may c = record { may = c.requires.may; kept = inl refl; inside = c.requires.may.visit.inside }
