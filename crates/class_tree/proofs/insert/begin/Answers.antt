use Rattle.class_tree.proofs.Begun.{is_target, begun_few}
use Rattle.class_tree.proofs.insert.begin.Goals as goal
use Rattle.board_core.specs.CountRule.{most_linked}

pub returns-clause-target : goal.returns-clause-target
returns-clause-target c = is_target _ c.args.caller.now c.load_own_head-head.new.caller c.begin_row-first.new.caller c.load_own_code-second.new.caller c.load_own_code-third.new.caller c.load_own_code-fourth.new.caller _ c.args.row _ _ _ _ _ _ c.requires.fits c.load_own_head-head.ensures.same
    c.load_own_code-fifth.ensures.after c.load_own_code-fourth.ensures.after c.load_own_code-third.ensures.after c.load_own_code-second.ensures.after c.begin_row-first.ensures.after
    c.begin_row-first.ensures.stored c.load_own_code-second.ensures.stored c.load_own_code-third.ensures.stored c.load_own_code-fourth.ensures.stored c.load_own_code-fifth.ensures.stored
    c.begin_row-first.ensures.some c.load_own_code-second.ensures.some c.load_own_code-third.ensures.some c.load_own_code-fourth.ensures.some c.load_own_code-fifth.ensures.some
    c.begin_row-first.ensures.alone c.requires.fresh c.entry_of.ensures

pub returns-clause-few : goal.returns-clause-few
returns-clause-few c = begun_few most_linked c.begin_row-first.new.caller c.load_own_code-second.new.caller c.load_own_code-third.new.caller c.load_own_code-fourth.new.caller _ _ _ _ _ _
    c.load_own_code-fifth.ensures.after c.load_own_code-fourth.ensures.after c.load_own_code-third.ensures.after c.load_own_code-second.ensures.after c.begin_row-first.ensures.few
