use Rattle.std.proofs.Common.{length, refl, sym, ◌∙◌}
use Rattle.std.proofs.lemmas.Option.{slice_get_read}
use Rattle.told_history.proofs.Surveyed.{alike_more}
use Rattle.told_history.proofs.hits.first_other.Goals as goal

pub loop-index-preserved : goal.loop-index-preserved
loop-index-preserved c =
    let hits = c.args.hits.now in
    let hit = c.index-hits-index.result in
    let here = slice_get_read hits (length hits) c.loop-index.index hit refl c.loop-index-test.true c.index-hits-index.is in
    alike_more hits c.args.all.now c.loop-index.index hit c.loop-index.invariant here (c.is_at.ensures.yes c.if-not-is_at.false)

pub returns-then-not-is_at-clause-other : goal.returns-then-not-is_at-clause-other
returns-then-not-is_at-clause-other c =
    let hits = c.args.hits.now in
    let hit = c.index-hits-index.result in
    let here = slice_get_read hits (length hits) c.loop-index.index hit refl c.loop-index-test.true c.index-hits-index.is in
    λ same. c.is_at.ensures.no c.if-not-is_at.true (sym same ∙ here)
