use Rattle.class_tree.proofs.Behind.{comes_higher, comes_after, lacks_after}
use Rattle.class_tree.proofs.link.enter_child.Goals as goal

pub returns-then-load_header-ne1-clause-goes : goal.returns-then-load_header-ne1-clause-goes
returns-then-load_header-ne1-clause-goes c = comes_higher _ c.args.caller.now _ c.args.slot c.args.at _ _ c.args.target.now c.requires.behind c.load_header.ensures.same c.load_header.ensures.header c.load_header.ensures.shallow c.if-load_header-ne1.true

pub returns-in-Ok-split_leaf-clause-goes : goal.returns-in-Ok-split_leaf-clause-goes
returns-in-Ok-split_leaf-clause-goes c = comes_after _ c.args.caller.now c.load_header.new.caller c.fill_leaf.new.caller _ _ _ _ _ c.load_header.ensures.same c.if-fill_leaf.ensures.placed.0 c.in-Ok-split_leaf.ensures.comes

pub returns-in-Err-split_leaf-clause-goes : goal.returns-in-Err-split_leaf-clause-goes
returns-in-Err-split_leaf-clause-goes c = lacks_after _ c.args.caller.now c.load_header.new.caller c.fill_leaf.new.caller _ _ _ c.load_header.ensures.same c.if-fill_leaf.ensures.placed.0 c.in-Err-split_leaf.ensures.comes
