use Rattle.std.proofs.Common.{arith}
use Rattle.board_core.proofs.LoadEpoch.{epoch_allowed}
use Rattle.board.proofs.Tied.{same_table, low_word}
use Rattle.board.proofs.epochs.load_epoch.Goals as goal

pub load-requires : goal.load-requires
load-requires c = (
  same_table _ _ _ _ _ _ _ _ _ c.board.view_is c.caller.view_is c.requires,
  low_word _ _ _ _ _ _ 2 c.board.invariant.1 (omega arith),
  epoch_allowed _ _ _ _,
)
