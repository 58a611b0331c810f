use Rattle.std.proofs.Common.{sym, subst}
use Rattle.board_core.specs.Steps.{MayPin}
use Rattle.board.specs.Seated.{Seated}
use Rattle.page_pool.proofs.Passing.{has_epoch}
use Rattle.page_pool.proofs.pins.pin.Goals as goal

pub store_announcement-requires-clause-may : goal.store_announcement-requires-clause-may
store_announcement-requires-clause-may c = subst (λ (x : Seated). MayPin x.account c.load_epoch-epoch.result) (sym c.load_epoch-epoch.ensures.after) record { unpinned = c.requires.unpinned; loaded = has_epoch c.args.caller.now.account _ }
