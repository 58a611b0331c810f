use Rattle.class_tree.proofs.Passed.{may_pass, passed, none_passed, past}
use Rattle.class_tree.proofs.leaf.go_past.Goals as goal

pub pass_leaf-word-requires-clause-may : goal.pass_leaf-word-requires-clause-may
pass_leaf-word-requires-clause-may c = may_pass _ _ _ _ _ _ c.requires.leaf

pub returns-then-word-ne0-clause-past : goal.returns-then-word-ne0-clause-past
returns-then-word-ne0-clause-past c = passed _ c.args.caller.now _ _ _ _ _ _ c.requires.leaf c.pass_leaf-word.ensures.after c.if-word-ne0.true (c.pass_leaf-word.ensures.page c.if-word-ne0.true) c.stop_at.ensures

pub returns-clause-past : goal.returns-clause-past
returns-clause-past c = past _ c.args.caller.now c.pass_leaf-word.new.caller c.fill_leaf.new.caller _ c.args.at _ _ _ _ (none_passed c.args.caller.now c.pass_leaf-word.new.caller _ _ c.pass_leaf-word.ensures.after c.if-word-ne0.false) c.if-fill_leaf.ensures.placed.0 c.next_leaf.ensures.next
