use Rattle.std.proofs.Common.{slice_index_or, arith, rules}
use Rattle.embed.proofs.Keeps.{no_bond, length-shape}
use Rattle.embed.proofs.Anchors.{Walked-lead, lead-at, IsAnchor-at, AsksNoBond-from}
use Rattle.embed.proofs.anchored.find_anchor.Goals as goal

pub returns-then-link-eq0-clause-none : goal.returns-then-link-eq0-clause-none
returns-then-link-eq0-clause-none c =
    let lead = lead-at _ _ c.args.target.now.plan.now c.args.map.now c.len.result c.args.target.now.plan_is
    c.len.ensures.value c.requires in
    AsksNoBond-from _ _ _ (slice_index_or c.args.target.now.plan.now c.len.result 0) c.args.target.now.asked_is
    (Walked-lead _ _ _ _ lead) c.if-link-eq0.true

pub returns-clause-some : goal.returns-clause-some
returns-clause-some c =
    let lead = lead-at _ _ c.args.target.now.plan.now c.args.map.now c.len.result c.args.target.now.plan_is
    c.len.ensures.value c.requires in
    IsAnchor-at _ _ _ _ (slice_index_or c.args.target.now.plan.now c.len.result 0) _ _ no_bond
    c.bonds-bonds.ensures.valid c.bonds-bonds.ensures.items (length-shape _ _ c.args.target.now.asked_is)
    (Walked-lead _ _ _ _ lead) (omega arith) c.link_before-rest.ensures
    (rw c.bonds-bonds.ensures.items (lead.last (omega arith) no_bond)) (search rules)
