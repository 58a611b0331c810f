use Rattle.std.proofs.Common.{◌+◌, ap, subst, arith}
use Rattle.htss_defs.specs.declared.shape.Shape.{Shape}
use Rattle.board.proofs.Tied.{pages_at_most}
use Rattle.page_pool.specs.Taking.{AreBetween, HasLooked}
use Rattle.page_pool.proofs.Looks.{looked_round, taken_round}
use Rattle.page_pool.proofs.Giving.{if_none, if_some}
use Rattle.page_pool.proofs.scans.look_round.Goals as goal

pub overflow_add-end : goal.overflow_add-end
overflow_add-end c = let most = pages_at_most _ c.shape-end.ensures.limits in let same = ap (λ (k : Shape). k.pages) c.shape-end.ensures.value in omega arith

pub returns-clause-none : goal.returns-clause-none
returns-clause-none c =
    let first = subst (λ (k : Shape). HasLooked (AreBetween c.args.next (k.pages + 1)) c.args.low c.args.next (k.pages + 1) c.args.caller.now c.look_from.new.caller) c.shape-end.ensures.value c.in_default.ensures.none in
    if_none c.look_from-2.result _ _ (looked_round _ _ _ _ _ _ first) c.look_from-2.ensures.none

pub returns-clause-some : goal.returns-clause-some
returns-clause-some c =
    let first = subst (λ (k : Shape). HasLooked (AreBetween c.args.next (k.pages + 1)) c.args.low c.args.next (k.pages + 1) c.args.caller.now c.look_from.new.caller) c.shape-end.ensures.value c.in_default.ensures.none in
    if_some c.look_from-2.result _ _ (λ page t. let above = t.0 in let before = t.1 in let within = c.requires.next.1 in ((omega arith, omega arith), taken_round _ _ _ page _ _ _ t.1 first t.2)) c.look_from-2.ensures.some
