use Rattle.query_mol.proofs.Joined.{last_told}
use Rattle.query_mol.proofs.query.told_atoms.Goals as goal

pub returns : goal.returns
returns c = last_told _ _ _ _ (rw c.in-None.is at c.next.ensures.steps) c.loop-atom.invariant
