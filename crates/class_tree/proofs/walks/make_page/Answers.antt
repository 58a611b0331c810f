use Rattle.class_tree.proofs.Taking.{is_ready, was_refused, refused_stocked}
use Rattle.class_tree.proofs.walks.make_page.Goals as goal
use Rattle.class_tree.proofs.Takings.{few_stocked}

pub returns-in-Err-clause-refused : goal.returns-in-Err-clause-refused
returns-in-Err-clause-refused c = was_refused _ c.args.caller.now _ c.in-Err.ensures.none.0 c.in-Err.ensures.none.1

pub returns-in-Err-clause-stocked : goal.returns-in-Err-clause-stocked
returns-in-Err-clause-stocked c = refused_stocked _ c.args.caller.now _ c.requires.stocked c.in-Err.ensures.none.1

pub returns-clause-ready : goal.returns-clause-ready
returns-clause-ready c = is_ready _ c.args.caller.now c.take.new.caller _ _ _ _ c.requires.stocked c.in-Ok.ensures.ok.0 c.in-Ok.ensures.ok.1 c.store_page.ensures

pub take-requires-clause-few : goal.take-requires-clause-few
take-requires-clause-few c = few_stocked _ c.requires.stocked
