use Rattle.std.proofs.Common.{arith}
use Rattle.board_core.specs.declared.account.Account.{Account}
use Rattle.board_core.specs.Steps.{MayAdvance}
use Rattle.board_core.proofs.AdvanceEpoch.{advance_allowed}
use Rattle.board.proofs.Tied.{same_table, low_word, of_account}
use Rattle.board.proofs.epochs.advance_epoch.Goals as goal

pub compare_exchange-requires : goal.compare_exchange-requires
compare_exchange-requires c = (
  same_table _ _ _ _ _ _ _ _ _ c.board.view_is c.caller.view_is c.requires.fits,
  low_word _ _ _ _ _ _ 2 c.board.invariant.1 (omega arith),
  advance_allowed _ _ _ c.args.epoch _ (of_account (λ (a : Account). MayAdvance a c.args.epoch) _ _ _ _ _ _ c.caller.view_is c.requires.may),
)
