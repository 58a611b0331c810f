use Rattle.std.proofs.Common.{◌-◌, ◌/◌, ◌<◌, length, arith}
use Rattle.embed.proofs.Keeps.{no_bond, KeepsAt-of, KeptFrom-start, KeptFrom-more, KeptFrom-end, length-shape}
use Rattle.embed.proofs.extend.bonds_keep.Goals as goal

pub loop-link-init : goal.loop-link-init
loop-link-init c = KeptFrom-start _ _ _ _ _ _ c.requires.link

pub loop-link-preserved : goal.loop-link-preserved
loop-link-preserved c =
    let within : (c.loop-link.link - 1) / 2 < length c.args.target.now.query.now.bonds = omega
    (arith, c.loop-link.invariant.at.within, length-shape _ _ c.args.target.now.asked_is) in
    KeptFrom-more _ _ _ _ _ _ c.loop-link.link _ c.loop-link.invariant (omega arith)
    (KeepsAt-of c.args.target.now.mol.now c.args.map.now c.args.p c.args.target.now.query.now.bonds _ _
    no_bond _ c.bonds-bonds.ensures.items within c.bond_keeps.ensures c.if-not-bond_keeps.false)
    c.link_before-link.ensures

pub returns-clause-kept : goal.returns-clause-kept
returns-clause-kept c = λ _. KeptFrom-end _ _ _ _ _ _ _ c.loop-link.invariant (omega arith)
