use Rattle.std.proofs.Common.{◌<◌, ◌≤◌, length, get_or, ap, rules, arith}
use Rattle.htss_defs.specs.Adjacency.{JoinsAt}
use Rattle.ring_bonds.proofs.Visits.{IsSized, HasEndAt-within, AreVisits-room, JoinsAt-within, JoinsAt-next, IsSettled-of, tree-at_head, visited}
use Rattle.ring_bonds.proofs.forest.Visits.reach.Goals as goal

pub bounds-self-head : goal.bounds-self-head
bounds-self-head c =
    omega (arith, c.requires.visits.few)

pub offset_bounds-self-head : goal.offset_bounds-self-head
offset_bounds-self-head c =
    let h : c.args.head < 1000 = omega (arith, c.requires.visits.few) in
    search rules

pub bounds-bonds-bond : goal.bounds-bonds-bond
bounds-bonds-bond c = omega (arith, ap length c.bonds.ensures.items, HasEndAt-within _ _ _ c.requires.end)

pub overflow_add-found : goal.overflow_add-found
overflow_add-found c =
    let h : c.args.bond < 999 = omega (arith, c.bonds.ensures.valid.bonds, HasEndAt-within _ _ _ c.requires.end) in
    search rules

pub overflow_add-found-then-self-next-eq0 : goal.overflow_add-found-then-self-next-eq0
overflow_add-found-then-self-next-eq0 c =
    let h : get_or c.args.self.now.forest.depth (get_or c.args.self.now.queue c.args.head 0) 0 ≤ 1000 =
    omega (arith, c.requires.visits.few, c.requires.visits.shallow (get_or c.args.self.now.queue c.args.head 0)) in
    search rules

pub visit-requires-clause-place : goal.visit-requires-clause-place
visit-requires-clause-place c =
    let j : JoinsAt c.args.graph.now c.args.bond (get_or c.args.self.now.queue c.args.head 0) c.other_end-next.result =
    JoinsAt-next _ c.bonds.result.now _ _ _ c.bonds.ensures.items c.requires.end c.other_end-next.ensures.first c.other_end-next.ensures.second in
    omega (arith, (JoinsAt-within _ _ _ _ c.bonds.ensures.valid j).1)

pub visit-requires-clause-room : goal.visit-requires-clause-room
visit-requires-clause-room c =
    let s : IsSized c.args.self.now = record { parent = omega arith; above = omega arith; depth = omega arith; tree = omega arith; queue = omega arith } in
    let j : JoinsAt c.args.graph.now c.args.bond (get_or c.args.self.now.queue c.args.head 0) c.other_end-next.result =
    JoinsAt-next _ c.bonds.result.now _ _ _ c.bonds.ensures.items c.requires.end c.other_end-next.ensures.first c.other_end-next.ensures.second in
    AreVisits-room _ _ _ _ c.other_end-next.result c.requires.visits s (omega (arith, (JoinsAt-within _ _ _ _ c.bonds.ensures.valid j).1)) c.if-self-next-eq0.true

pub returns-then-self-next-eq0-clause-visits : goal.returns-then-self-next-eq0-clause-visits
returns-then-self-next-eq0-clause-visits c =
    let s : IsSized c.args.self.now = record { parent = omega arith; above = omega arith; depth = omega arith; tree = omega arith; queue = omega arith } in
    let j : JoinsAt c.args.graph.now c.args.bond (get_or c.args.self.now.queue c.args.head 0) c.other_end-next.result =
    JoinsAt-next _ c.bonds.result.now _ _ _ c.bonds.ensures.items c.requires.end c.other_end-next.ensures.first c.other_end-next.ensures.second in
    (visited _ c.args.self.now c.visit.new.self c.args.head c.args.root c.args.bond c.other_end-next.result c.bonds.ensures.valid c.requires.visits s c.requires.within c.requires.some j c.if-self-next-eq0.true c.visit.ensures).0

pub returns-then-self-next-eq0-clause-settled : goal.returns-then-self-next-eq0-clause-settled
returns-then-self-next-eq0-clause-settled c =
    let s : IsSized c.args.self.now = record { parent = omega arith; above = omega arith; depth = omega arith; tree = omega arith; queue = omega arith } in
    let j : JoinsAt c.args.graph.now c.args.bond (get_or c.args.self.now.queue c.args.head 0) c.other_end-next.result =
    JoinsAt-next _ c.bonds.result.now _ _ _ c.bonds.ensures.items c.requires.end c.other_end-next.ensures.first c.other_end-next.ensures.second in
    (visited _ c.args.self.now c.visit.new.self c.args.head c.args.root c.args.bond c.other_end-next.result c.bonds.ensures.valid c.requires.visits s c.requires.within c.requires.some j c.if-self-next-eq0.true c.visit.ensures).1

pub returns-else-self-next-eq0-clause-settled : goal.returns-else-self-next-eq0-clause-settled
returns-else-self-next-eq0-clause-settled c =
    let j : JoinsAt c.args.graph.now c.args.bond (get_or c.args.self.now.queue c.args.head 0) c.other_end-next.result =
    JoinsAt-next _ c.bonds.result.now _ _ _ c.bonds.ensures.items c.requires.end c.other_end-next.ensures.first c.other_end-next.ensures.second in
    IsSettled-of _ _ _ _ _ _ _ c.requires.visits j c.requires.some (tree-at_head _ _ _ _ c.requires.visits c.requires.within) (omega (arith, c.if-self-next-eq0.false))
