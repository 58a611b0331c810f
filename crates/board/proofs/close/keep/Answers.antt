use Rattle.std.proofs.Common.{refl, arith}
use Rattle.board.proofs.Tied.{same_board, same_table, low_word}
use Rattle.board_core.proofs.JoinCaller.{caller_joins}
use Rattle.board.proofs.close.keep.Goals as goal

pub join_seat-requires : goal.join_seat-requires
join_seat-requires c = (
  same_board _ _ _ _ _ c.board.view_is refl c.requires.table,
  same_table _ _ _ _ _ _ _ _ _ c.board.view_is c.other.view_is c.requires.other,
  c.other.invariant.3,
  low_word _ _ _ _ _ _ 0 c.board.invariant.1 (omega arith),
  caller_joins _ _ _ _ _,
)
