use Rattle.std.proofs.Common.{◌+◌, ◌<◌, ap, sym, arith, subst}
use Rattle.htss_defs.specs.declared.shape.Shape.{Shape}
use Rattle.board.proofs.Tied.{loaders_at_most, searchers_at_most}
use Rattle.page_pool.proofs.Passing.{may_pass, passing_next}
use Rattle.page_pool.proofs.scans.least_announced.Goals as goal

pub overflow_add-count : goal.overflow_add-count
overflow_add-count c =
    let loaders = loaders_at_most _ c.shape-shape.ensures.limits in
    let searchers = searchers_at_most _ c.shape-shape.ensures.limits in
    let same = ap (λ (k : Shape). k.loaders) c.shape-shape.ensures.value in
    let same' = ap (λ (k : Shape). k.searchers) c.shape-shape.ensures.value in omega arith

pub load_announcement-announced-requires-clause-may : goal.load_announcement-announced-requires-clause-may
load_announcement-announced-requires-clause-may c = may_pass _ _ _ c.args.caller.now _ c.loop-index.invariant c.requires.fresh
    (subst (λ (k : Shape). c.loop-index.index < k.loaders + k.searchers) c.shape-shape.ensures.value c.loop-index-test.true)

pub loop-index-preserved : goal.loop-index-preserved
loop-index-preserved c = passing_next _ _ _ _ _ c.loop-index.caller _ c.loop-index.invariant c.load_announcement-announced.ensures (sym c.least_of-low.ensures)
