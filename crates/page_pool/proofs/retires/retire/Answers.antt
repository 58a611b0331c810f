use Rattle.page_pool.proofs.Passing.{may_retire}
use Rattle.page_pool.proofs.retires.retire.Goals as goal

pub store_retired-requires-clause-may : goal.store_retired-requires-clause-may
store_retired-requires-clause-may c = may_retire _ c.args.caller.now _ _ _ c.load_epoch-epoch.ensures.after c.load_epoch-epoch.ensures.above c.requires.page c.requires.unlinked
