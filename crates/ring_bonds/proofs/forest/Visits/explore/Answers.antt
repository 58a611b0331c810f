use Rattle.std.proofs.Common.{ℕ, ◌-◌, ◌/◌, ◌<◌, get_or, subst, sym, rules, arith}
use Rattle.htss_defs.proofs.Chains.{Walked-more}
use Rattle.ring_bonds.specs.Visits.{HasEndAt, IsSettled}
use Rattle.ring_bonds.proofs.Visits.{HasEndAt-link, IsLater-trans, Walked-later, AreVisits-explored}
use Rattle.ring_bonds.proofs.forest.Visits.explore.Goals as goal

pub bounds-self-head : goal.bounds-self-head
bounds-self-head c =
    omega (arith, c.requires.visits.few)

pub offset_bounds-self-head : goal.offset_bounds-self-head
offset_bounds-self-head c =
    let h : c.args.head < 1000 = omega (arith, c.requires.visits.few) in
    search rules

pub reach-requires-clause-end : goal.reach-requires-clause-end
reach-requires-clause-end c =
    let end : HasEndAt c.args.graph.now ((c.loop-link.link - 1) / 2) (get_or c.args.self.now.queue c.args.head 0) = HasEndAt-link _ _ _ _ c.loop-link.invariant.walked (omega arith) in
    subst (λ (x : ℕ). HasEndAt c.args.graph.now ((c.loop-link.link - 1) / 2) x) (sym (c.loop-link.invariant.later.queue c.args.head c.requires.within)) end

pub loop-link-preserved : goal.loop-link-preserved
loop-link-preserved c = record {
  visits = c.reach.ensures.visits;
  later = IsLater-trans _ _ _ c.loop-link.invariant.later c.reach.ensures.later;
  walked = Walked-more _ _ _ _ (IsSettled c.args.graph.now c.reach.new.self.forest) (Walked-later _ _ _ _ _ c.reach.ensures.later c.loop-link.invariant.walked) (omega arith) c.reach.ensures.settled c.link_before-link.ensures;
}

pub returns-clause-visits : goal.returns-clause-visits
returns-clause-visits c =
    AreVisits-explored _ _ _ _ _ c.loop-link.link c.loop-link.invariant.visits (sym (c.loop-link.invariant.later.queue c.args.head c.requires.within)) c.loop-link.invariant.walked (omega arith)
