use Rattle.class_tree.proofs.Passed.{may_pass, may_first}
use Rattle.class_tree.proofs.leaf.remember.Goals as goal

pub keep_leaves-requires-clause-first : goal.keep_leaves-requires-clause-first
keep_leaves-requires-clause-first c = may_first _ _ _ _ c.requires.first c.requires.leaf.target c.requires.leaf.at.pinned

pub keep_leaves-requires-clause-last : goal.keep_leaves-requires-clause-last
keep_leaves-requires-clause-last c = may_pass _ _ _ _ _ _ c.requires.leaf
