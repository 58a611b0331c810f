use Rattle.std.proofs.Common.{refl, arith}
use Rattle.htss_defs.specs.declared.shape.Field.TheVariants.{Chain}
use Rattle.class_tree.proofs.Searching.{lacks_one}
use Rattle.class_tree.proofs.Passed.{may_first, comes_again, some_fills, fills_stop}
use Rattle.class_tree.proofs.leaf.fill_again.Goals as goal

pub reach_again-requires-clause-may : goal.reach_again-requires-clause-may
reach_again-requires-clause-may c = may_first _ _ _ _ c.requires.first c.requires.target c.requires.pinned

pub fill_from-requires-clause-leaf : goal.fill_from-requires-clause-leaf
fill_from-requires-clause-leaf c = (comes_again _ c.args.caller.now c.reach_again.new.caller c.args.first c.args.last _ c.requires.first c.requires.target c.requires.pinned c.requires.size c.reach_again.ensures).3

pub fill_from-requires-clause-rank : goal.fill_from-requires-clause-rank
fill_from-requires-clause-rank c = let low = (c.shape-limits.ensures.limits Chain).0 in omega arith

pub returns-in-Ok-Some-clause-placed : goal.returns-in-Ok-Some-clause-placed
returns-in-Ok-Some-clause-placed c = fills_stop _ c.args.caller.now c.reach_again.new.caller c.fill_from.new.caller _ _ _ _ _ _
    (comes_again _ c.args.caller.now c.reach_again.new.caller c.args.first c.args.last _ c.requires.first c.requires.target c.requires.pinned c.requires.size c.reach_again.ensures).0
    (some_fills _ c.reach_again.new.caller _ _ _ _ _ _ c.in-Ok-Some.field-0-is c.in-Ok-Some.ensures.placed) refl c.refuse_chain.ensures.after c.refuse_chain.ensures.full

pub returns-in-Err-clause-placed : goal.returns-in-Err-clause-placed
returns-in-Err-clause-placed c = lacks_one _ 0 c.args.caller.now c.reach_again.new.caller _ _
    (comes_again _ c.args.caller.now c.reach_again.new.caller c.args.first c.args.last _ c.requires.first c.requires.target c.requires.pinned c.requires.size c.reach_again.ensures).0 c.in-Err.ensures.placed
