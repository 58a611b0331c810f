use Rattle.std.proofs.Common.{◌+◌, ◌<◌, length, refl, ap, arith}
use Rattle.htss_defs.specs.Needs.{surely_in}
use Rattle.env_code.proofs.Lanes.{AreRows-start, AreRows-more}
use Rattle.env_cover.proofs.Asked.{atom-row, test-read}
use Rattle.env_cover.proofs.needs.lanes_of.Goals as goal

pub loop-index-init : goal.loop-index-init
loop-index-init c = AreRows-start (surely_in c.args.query.now) _ refl

pub loop-index-preserved : goal.loop-index-preserved
loop-index-preserved c =
    let small : c.loop-index.index < 999 = omega (arith, c.atoms-atom-items.ensures.valid.atoms.1, ap length c.atoms-atom-items.ensures.items) in
    AreRows-more (surely_in c.args.query.now) c.loop-index.index c.loop-index.lanes c.lanes_of_atom.result c.loop-index.invariant small
    (atom-row c.args.query.now c.args.counts.now (c.loop-index.index + 1) _ _ c.lanes_of_atom.result c.requires (omega arith)
    (test-read c.args.query.now c.atoms-atom-items.result.now c.loop-index.index _ c.atoms-atom-items.ensures.items c.loop-index-test.true) refl c.lanes_of_atom.ensures)

pub returns : goal.returns
returns c = record { at = λ i y lt low high. c.loop-index.invariant.has.at i y lt low (omega (arith, ap length c.atoms-atom-items.ensures.items)) }
