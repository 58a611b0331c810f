use Rattle.class_tree.proofs.Searching.{lacks_one}
use Rattle.class_tree.proofs.Passed.{some_fills, fills_stop, fills_on}
use Rattle.class_tree.proofs.leaf.fill_chain.Goals as goal

pub returns-in-Err-clause-placed : goal.returns-in-Err-clause-placed
returns-in-Err-clause-placed c = lacks_one _ 0 c.args.caller.now c.recall-from.new.caller _ _ c.recall-from.ensures.goes c.in-Err.ensures.placed

pub returns-then-from-eq0-clause-placed : goal.returns-then-from-eq0-clause-placed
returns-then-from-eq0-clause-placed c = fills_stop _ c.args.caller.now c.recall-from.new.caller c.fill_from.new.caller _ _ _ _ _ _ c.recall-from.ensures.goes
    (some_fills _ c.recall-from.new.caller _ _ _ _ _ _ c.in-Ok-Some.field-0-is c.in-Ok-Some.ensures.placed) c.if-from-eq0.true c.refuse_chain.ensures.after c.refuse_chain.ensures.full

pub returns-clause-placed : goal.returns-clause-placed
returns-clause-placed c = fills_on _ c.args.caller.now c.recall-from.new.caller c.fill_from.new.caller _ _ _ _ _ c.fill_again.result c.recall-from.ensures.goes
    (some_fills _ c.recall-from.new.caller _ _ _ _ _ _ c.in-Ok-Some.field-0-is c.in-Ok-Some.ensures.placed) c.fill_again.ensures.placed
