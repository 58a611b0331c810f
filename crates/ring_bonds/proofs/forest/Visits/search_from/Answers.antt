use Rattle.std.proofs.Common.{ℕ, ◌<◌, subst, sym, rules, arith}
use Rattle.ring_bonds.proofs.Visits.{IsSized, AreVisits-room, AreVisits-next, IsLater-trans, started}
use Rattle.ring_bonds.proofs.forest.Visits.search_from.Goals as goal

pub visit-requires-clause-room : goal.visit-requires-clause-room
visit-requires-clause-room c =
    let s : IsSized c.args.self.now = record { parent = omega arith; above = omega arith; depth = omega arith; tree = omega arith; queue = omega arith } in
    AreVisits-room _ _ _ _ c.args.root c.requires.visits s (omega (arith, c.requires.valid.atoms)) c.if-self-root-ne0.false

pub loop-head-init : goal.loop-head-init
loop-head-init c =
    let s : IsSized c.args.self.now = record { parent = omega arith; above = omega arith; depth = omega arith; tree = omega arith; queue = omega arith } in
    let start = started _ c.args.self.now c.visit.new.self c.args.root c.requires.valid c.requires.visits s c.requires.some c.requires.within c.if-self-root-ne0.false c.visit.ensures in
    record { visits = start.0; later = start.1; seen = start.2; within = start.1.more }

pub overflow_add-head : goal.overflow_add-head
overflow_add-head c =
    let h : c.loop-head.head < 1000 = omega (arith, c.loop-head.invariant.visits.few) in
    search rules

pub loop-head-preserved : goal.loop-head-preserved
loop-head-preserved c =
    let inv = c.loop-head.invariant in
    record {
      visits = c.explore.ensures.visits;
      later = IsLater-trans _ _ _ inv.later c.explore.ensures.later;
      seen = subst (λ (t : ℕ). 0 < t) (sym (c.explore.ensures.later.trees c.args.root inv.seen)) inv.seen;
      within = omega (arith, c.explore.ensures.later.more);
    }

pub loop-head-smaller : goal.loop-head-smaller
loop-head-smaller c =
    omega (arith, c.loop-head.invariant.visits.few)

pub returns-clause-visits : goal.returns-clause-visits
returns-clause-visits c = AreVisits-next _ _ _ _ 0 c.loop-head.invariant.visits (omega arith)
