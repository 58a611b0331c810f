use Rattle.std.proofs.Common.{inl, inr}
use Rattle.page_pool.proofs.Looks.{may_take, looked_busy, exchanged}
use Rattle.page_pool.proofs.scans.try_page.Goals.{then-state-eq1-via-then-state-eq1, then-state-eq1-via-else-state-eq1+then-state-low}
use Rattle.page_pool.proofs.scans.try_page.Goals as goal

pub returns-then-state-eq1 : goal.returns-then-state-eq1
returns-then-state-eq1 c = looked_busy _ _ _ c.args.caller.now _ c.load_state-state.ensures
    (elim c.then-state-eq1.branch [ then-state-eq1-via-then-state-eq1 w ↦ inl w.if-state-eq1.true | then-state-eq1-via-else-state-eq1+then-state-low w ↦ inr w.if-state-low.true ])

pub exchange_state-requires-clause-may : goal.exchange_state-requires-clause-may
exchange_state-requires-clause-may c = may_take _ c.args.caller.now _ _ _ _ c.load_state-state.ensures c.requires.loader c.requires.page c.requires.low c.requires.scanned c.requires.few c.if-state-eq1.false c.if-state-low.false

pub returns : goal.returns
returns c = exchanged c.exchange_state.result _ _ _ c.args.caller.now _ _ c.load_state-state.ensures c.exchange_state.ensures.after c.exchange_state.ensures.fresh
