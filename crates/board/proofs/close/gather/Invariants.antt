use Rattle.std.proofs.Common.{◌≡◌, ◌++◌, map, vec_len}
use Rattle.board_core.specs.Each.{Each}
use Rattle.board_core.specs.Accounts.{accounts_in}
use Rattle.board.specs.Seated.{IsAtRest, account_of}
use Rattle.board.proofs.close.gather.Given as goal

abbrev pub invariant-loop-callers : goal.invariant-loop-callers
invariant-loop-callers l = record {
  rest : Each (IsAtRest l.board) l.callers.items;
  table : l.seat.table_id ≡ l.board.table;
  accounts : accounts_in l.seat.me.0 ++ map account_of l.callers.items ≡ map account_of l.fn.callers.items;
}

abbrev pub decreases-loop-callers : goal.decreases-loop-callers
decreases-loop-callers l = vec_len l.callers
