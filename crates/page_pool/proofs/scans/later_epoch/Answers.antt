use Rattle.std.proofs.Common.{sym, subst}
use Rattle.board_core.specs.Loaded.{HasEpoch}
use Rattle.board.specs.Seated.{Seated}
use Rattle.page_pool.proofs.Passing.{has_epoch, has_risen}
use Rattle.page_pool.proofs.scans.later_epoch.Goals as goal

pub try_next-requires-clause-loaded : goal.try_next-requires-clause-loaded
try_next-requires-clause-loaded c = subst (λ (x : Seated). HasEpoch x.account c.load_epoch-first.result) (sym c.load_epoch-first.ensures.after) (has_epoch c.args.caller.now.account _)

pub returns : goal.returns
returns c = has_risen _ _ _ _ c.load_epoch-first.result c.load_epoch.result c.load_epoch-first.ensures.after c.try_next.ensures c.load_epoch.ensures.after c.load_epoch.ensures.above c.load_epoch.ensures.most c.load_epoch.ensures.later c.load_epoch.ensures.risen
