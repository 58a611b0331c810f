use Rattle.tree_tests.proofs.Takes.{stocked_given}
use Rattle.tree_tests.proofs.boards.end_one.Goals as goal

pub take_all-requires-clause-given : goal.take_all-requires-clause-given
take_all-requires-clause-given c = stocked_given _ c.requires.loading.1.1
