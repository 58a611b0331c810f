use Rattle.tree_tests.proofs.Takes.{take_rests, take_given, few_given}
use Rattle.tree_tests.proofs.boards.take_at_rest.Goals as goal

pub returns-clause-rest : goal.returns-clause-rest
returns-clause-rest c = take_rests _ _ _ _ c.take.result c.take.ensures.ok c.take.ensures.none c.take.ensures.of c.requires.rest

pub take-requires-clause-few : goal.take-requires-clause-few
take-requires-clause-few c = few_given _ _ c.requires.given c.requires.few

pub returns-clause-given : goal.returns-clause-given
returns-clause-given c = take_given _ c.args.caller.now _ c.take.result _ c.take.ensures.ok c.requires.few c.requires.given
