use Rattle.class_tree.proofs.Begun.{pinned_few, pinned_down, inserted, has_begun}
use Rattle.class_tree.proofs.insert.insert_row.Goals as goal
use Rattle.board_core.specs.CountRule.{most_linked}

pub descend-answer-requires-clause-down : goal.descend-answer-requires-clause-down
descend-answer-requires-clause-down c = pinned_down _ c.begin-target.new.caller _ _ _ c.begin-target.ensures.target c.pin.ensures c.root-first.ensures.page c.root-first.ensures.first

pub returns-clause-answer : goal.returns-clause-answer
returns-clause-answer c = inserted _ c.args.caller.now c.begin-target.new.caller c.pin.new.caller c.descend-answer.new.caller _ _ c.begin-target.result c.descend-answer.result c.begin-target.ensures.begun c.begin-target.ensures.row c.pin.ensures c.descend-answer.ensures.placed c.unpin.ensures

pub returns-clause-begun : goal.returns-clause-begun
returns-clause-begun c = has_begun _ c.args.caller.now c.begin-target.new.caller c.pin.new.caller c.descend-answer.new.caller _ _ c.begin-target.result c.descend-answer.result c.begin-target.ensures.begun c.pin.ensures c.descend-answer.ensures.placed c.unpin.ensures

pub descend-answer-requires-clause-few : goal.descend-answer-requires-clause-few
descend-answer-requires-clause-few c = pinned_few most_linked c.begin-target.new.caller _ c.pin.ensures c.begin-target.ensures.few
