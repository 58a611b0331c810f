use Rattle.std.proofs.Common.{◌+◌, ◌<◌, length, refl, ap, arith}
use Rattle.htss_defs.specs.Codes.{counts_in}
use Rattle.env_code.proofs.Lanes.{AreRows-start, AreRows-more}
use Rattle.env_code.proofs.Coding.{atom-row, element-read}
use Rattle.env_code.proofs.coder.set_lanes.Goals as goal

pub loop-index-init : goal.loop-index-init
loop-index-init c = AreRows-start (counts_in c.args.mol.now) _ (omega arith)

pub loop-index-preserved : goal.loop-index-preserved
loop-index-preserved c =
    let small : c.loop-index.index < 999 = omega (arith, c.atoms-atom-items.ensures.valid.atoms.1, ap length c.atoms-atom-items.ensures.items) in
    AreRows-more (counts_in c.args.mol.now) c.loop-index.index c.loop-index.lanes c.lanes_of_atom.result c.loop-index.invariant small
    (atom-row c.args.mol.now c.args.counts.now (c.loop-index.index + 1) _ _ c.lanes_of_atom.result c.requires (omega arith)
    (element-read c.args.mol.now c.atoms-atom-items.result.now c.loop-index.index c.atoms-atom-items.ensures.items c.loop-index-test.true) refl c.lanes_of_atom.ensures)

pub returns : goal.returns
returns c = record { at = λ i y lt low high. c.loop-index.invariant.has.at i y lt low (omega (arith, ap length c.atoms-atom-items.ensures.items)) }
