use Rattle.std.proofs.Common.{◌≡◌, arith}
use Rattle.board_core.specs.declared.account.Account.{Account}
use Rattle.board_core.specs.declared.account.Who.TheVariants.{Loader}
use Rattle.board_core.specs.Steps.{MayTake}
use Rattle.board_core.proofs.TakeLock.{take_allowed}
use Rattle.board.specs.Seated.{number_in}
use Rattle.board.proofs.Tied.{same_table, low_word, loader_is, of_account}
use Rattle.board.proofs.Stocks.{lock_seat}
use Rattle.board.proofs.steps.exchange_lock.Goals as goal

pub compare_exchange-requires : goal.compare_exchange-requires
compare_exchange-requires c = (
  same_table _ _ _ _ _ _ _ _ _ c.board.view_is c.caller.view_is c.requires.fits,
  low_word _ _ _ _ _ _ 1 c.board.invariant.1 (omega arith),
  take_allowed _ _ _ _ _ (loader_is _ _ _ c.caller.invariant.1 (of_account (λ (a : Account). a.who ≡ Loader (number_in a.who)) _ _ _ _ _ _ c.caller.view_is c.requires.loader))
      (of_account MayTake _ _ _ _ _ _ c.caller.view_is c.requires.may),
)

pub invariant_of-caller : goal.invariant_of-caller
invariant_of-caller c = (lock_seat c.caller.inside.seen c.caller.inside.used c.caller.inside.loader c.caller.inside.number c.caller.inside.stock.items c.caller.inside.tails c.caller.inside.next _ _ _ _ c.compare_exchange.ensures.2 record { facts = c.caller.invariant }).facts
