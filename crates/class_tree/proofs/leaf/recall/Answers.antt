use Rattle.std.proofs.Common.{arith}
use Rattle.htss_defs.specs.declared.shape.Field.TheVariants.{Chain}
use Rattle.board_core.specs.Passing.{kept_at}
use Rattle.class_tree.proofs.Passed.{may_pass, comes_some, comes_none}
use Rattle.class_tree.proofs.leaf.recall.Goals as goal

pub recall_leaf-requires-clause-may : goal.recall_leaf-requires-clause-may
recall_leaf-requires-clause-may c = may_pass _ _ _ _ _ _ c.requires.leaf

pub returns-in-Some : goal.returns-in-Some
returns-in-Some c = comes_some _ c.args.caller.now _ _ c.in-Some.leaf.page c.in-Some.leaf.rank (kept_at c.args.caller.now.account.tree.lasting c.in-Some.leaf.page) _ c.requires.leaf c.in-Some.ensures.page c.in-Some.ensures.rank c.in-Some.ensures.inside.0 c.in-Some.ensures.inside.1 c.in-Some.ensures.after

pub returns-in-None : goal.returns-in-None
returns-in-None c = comes_none _ c.args.caller.now _ _ _ c.requires.leaf (c.shape-limits.ensures.limits Chain).0 c.in-None.ensures.none
