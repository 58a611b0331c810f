use Rattle.std.proofs.Common.{◌-◌, ◌/◌, arith}
use Rattle.env_code.proofs.Steps.{IsWalk-few, IsOtherEnd-read, IsExploring-start, IsExploring-more, IsExploring-end, next-within}
use Rattle.env_code.proofs.walk.Walk.explore.Goals as goal

pub loop-link-init : goal.loop-link-init
loop-link-init c = IsExploring-start c.args.graph.now c.args.lanes.now c.args.self.now _ _ c.requires.walk c.last_link-link.ensures

pub reach-requires-clause-place : goal.reach-requires-clause-place
reach-requires-clause-place c =
    let other = IsOtherEnd-read c.bonds.result.now c.args.graph.now.bonds ((c.loop-link.link - 1) / 2) _ c.other_end-next.result c.bonds.ensures.items c.other_end-next.ensures.first c.other_end-next.ensures.second in
    omega (arith, c.bonds.ensures.valid.atoms, (next-within _ _ _ _ _ c.loop-link.link c.other_end-next.result c.bonds.ensures.valid c.loop-link.invariant (omega arith) other).1)

pub reach-requires-clause-room : goal.reach-requires-clause-room
reach-requires-clause-room c = omega (arith, c.bonds.ensures.valid.atoms, IsWalk-few _ _ _ c.loop-link.invariant.walk)

pub loop-link-preserved : goal.loop-link-preserved
loop-link-preserved c =
    let other = IsOtherEnd-read c.bonds.result.now c.args.graph.now.bonds ((c.loop-link.link - 1) / 2) _ c.other_end-next.result c.bonds.ensures.items c.other_end-next.ensures.first c.other_end-next.ensures.second in
    IsExploring-more _ _ _ c.loop-link.self c.reach.new.self _ c.loop-link.link _ _ c.bonds.ensures.valid c.loop-link.invariant (omega arith) other c.reach.ensures c.link_before-link.ensures

pub returns-clause-explored : goal.returns-clause-explored
returns-clause-explored c = IsExploring-end _ _ _ _ _ c.loop-link.link c.loop-link.invariant (omega arith)
