use Rattle.std.proofs.Common.{All, subst}
use Rattle.std.proofs.lemmas.List.{take_all}
use Rattle.std.proofs.lemmas.List.Elements.{All-more}
use Rattle.report_text.specs.Typed.{IsTypedHit}
use Rattle.report_text.proofs.typed.are_hits.Goals as goal

pub loop-hit-preserved : goal.loop-hit-preserved
loop-hit-preserved c =
    All-more IsTypedHit c.args.hits.now c.loop-hit.hit-index c.hit-item.result c.loop-hit-test.true c.loop-hit.invariant
    (subst IsTypedHit c.hit-item.is c.is_hit.ensures)

pub returns : goal.returns
returns c = subst (All IsTypedHit) (take_all c.loop-hit.hit-index c.args.hits.now c.loop-hit-test.false) c.loop-hit.invariant
