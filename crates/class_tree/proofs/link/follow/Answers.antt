use Rattle.class_tree.proofs.Behind.{follow_result}
use Rattle.class_tree.proofs.link.follow.Goals as goal

pub returns-clause-goes : goal.returns-clause-goes
returns-clause-goes c = follow_result _ c.args.caller.now c.reach.new.caller _ c.args.slot _ _ _ c.args.target.now c.enter_child.result c.in-Ok-Some.field-0-is c.in-Ok-Some.ensures.led c.enter_child.ensures.goes
