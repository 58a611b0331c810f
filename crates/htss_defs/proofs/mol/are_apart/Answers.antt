use Rattle.std.proofs.Common.{rules}
use Rattle.htss_defs.specs.Molecule.{bond_ends}
use Rattle.htss_defs.proofs.Pairs.{added-pairs, refused-pairs, linked-more}
use Rattle.htss_defs.proofs.mol.are_apart.Goals as goal

pub returns-then-not-add_new : goal.returns-then-not-add_new
returns-then-not-add_new c = (
  λ t. absurd cc,
  λ pairs.
      absurd (refused-pairs bond_ends c.args.bonds.now c.loop-bond.bond-index _ _ _ _ _
      c.loop-bond.invariant.linked c.ends.ensures (search rules) c.add_new.ensures.apart (search rules) pairs),
)

pub loop-bond-preserved : goal.loop-bond-preserved
loop-bond-preserved c = record {
  linked = linked-more _ c.args.bonds.now c.loop-bond.bond-index _ _ _ _ _ c.loop-bond.invariant.linked
      c.ends.ensures (search rules) (c.add_new.ensures.added (search rules));
  apart = added-pairs bond_ends c.args.bonds.now c.loop-bond.bond-index _ _ _ _ _ c.loop-bond.invariant.linked
      c.ends.ensures (search rules) c.add_new.ensures.apart (search rules) c.loop-bond.invariant.apart;
}
