use Rattle.mol_section.proofs.AtomSets.{clear_more, clear_left, charged}
use Rattle.std.proofs.Common.{pos, arith}
use Rattle.std.proofs.Common.{rules}
use Rattle.mol_section.proofs.properties.clear_charges.Goals as goal

pub loop-i-preserved : goal.loop-i-preserved
loop-i-preserved c = record {
  cleared = clear_more c.loop-i.atoms c.args.atoms.now c.loop-i.i _ (omega arith) (omega arith) c.loop-i.invariant.cleared c.loop-i.invariant.left c.with_charge.ensures;
  left = clear_left c.loop-i.atoms c.args.atoms.now c.loop-i.i _ c.loop-i.invariant.left;
  valid = λ least all. charged least c.loop-i.atoms c.loop-i.i (pos 0) _ (omega arith) (search rules) (search rules) c.with_charge.ensures (c.loop-i.invariant.valid least all);
}
