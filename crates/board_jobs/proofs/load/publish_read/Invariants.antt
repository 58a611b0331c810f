use Rattle.std.proofs.Common.{◌≡◌, ℕ, List, length}
use Rattle.board_core.specs.declared.account.Account.{Account}
use Rattle.board.specs.Seated.{IsLoader}
use Rattle.board_jobs.specs.Calls.{AreLoaded, GoesOn}
use Rattle.board_jobs.proofs.load.publish_read.Given as goal

abbrev pub invariant-loop-place : goal.invariant-loop-place
invariant-loop-place g l = record {
  finished : l.reader.finished ≡ l.fn.reader.finished;
  fed : l.reader.fed ≡ l.fn.reader.fed;
  loader : IsLoader l.caller;
  goes_on : GoesOn l.board l.fn.caller l.caller;
  loaded : (start : Account) (stream : List ℕ) → AreLoaded l.board.shape start l.fn.caller.account stream l.fn.reader l.fn.lines.items → AreLoaded l.board.shape start l.caller.account stream l.reader l.lines.items;
}

abbrev pub decreases-loop-place : goal.decreases-loop-place
decreases-loop-place g l = length l.reader.pending
