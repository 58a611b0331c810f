use Rattle.pool_tests.proofs.Taken.{taken_bare, taken_own}
use Rattle.pool_tests.proofs.pools.take_one.Goals as goal

pub returns-clause-ready : goal.returns-clause-ready
returns-clause-ready c = record { of = c.take.ensures.of; loader = c.take.ensures.loader; own = taken_own _ c.args.caller.now _ c.take.result _ c.take.ensures.ok c.take.ensures.none c.requires.ready.own; bare = taken_bare _ c.args.caller.now _ c.take.result c.take.ensures.ok c.take.ensures.none c.requires.ready.bare }
