use Rattle.std.proofs.Common.{◌≡◌, ◌++◌}
use Rattle.query_mol.specs.QueryAtoms.{told_atoms}
use Rattle.query_mol.proofs.query.told_atoms.Given as goal

abbrev pub invariant-loop-atom : goal.invariant-loop-atom
invariant-loop-atom l = l.told.items ++ told_atoms l.atom-iterator.a.rest.now l.atom-iterator.b.rest.now ≡ told_atoms l.atoms l.tests
