use Rattle.embed.proofs.Anchors.{may-alone}
use Rattle.embed.proofs.extend.may_stand_alone.Goals as goal

pub returns : goal.returns
returns c = may-alone c.args.target.now.query.now c.args.target.now.mol.now c.args.map.now c.args.p _
    c.requires.alone c.is_free_for.ensures
