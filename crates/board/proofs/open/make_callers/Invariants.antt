use Rattle.std.proofs.Common.{◌≡◌, length}
use Rattle.board_core.specs.Accounts.{view, account}
use Rattle.board_core.specs.declared.account.Who.TheVariants.{Opener}
use Rattle.board.specs.Seated.{AreNew}
use Rattle.board.proofs.open.make_callers.Given as goal

abbrev pub invariant-loop-made : goal.invariant-loop-made
invariant-loop-made l = record {
  table : l.opener.table_id ≡ l.board.table;
  opener : l.opener.me.0 ≡ view l.board.shape (account (Opener l.made) 0);
  count : length l.callers.items ≡ l.made;
  new : AreNew l.board l.callers.items;
}
