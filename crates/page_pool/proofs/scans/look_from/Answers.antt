use Rattle.std.proofs.Common.{arith}
use Rattle.page_pool.proofs.Looks.{looked_none, looked_next, taken_next}
use Rattle.page_pool.proofs.scans.look_from.Goals as goal

pub loop-page-init : goal.loop-page-init
loop-page-init c = looked_none _ _ _

pub loop-page-preserved : goal.loop-page-preserved
loop-page-preserved c = looked_next _ _ _ _ c.loop-page.caller _ c.loop-page.invariant c.if-try_page.ensures

pub returns-then-try_page-clause-some : goal.returns-then-try_page-clause-some
returns-then-try_page-clause-some c =
    let from = c.loop-page.auto.page in
    let below = c.loop-page-test.true in
    (omega arith, omega arith, taken_next _ _ _ _ c.loop-page.caller _ c.loop-page.invariant c.if-try_page.ensures)
