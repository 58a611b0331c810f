use Rattle.std.proofs.Common.{◌≡◌, ◌+◌, length, false}
use Rattle.board.specs.Seated.{IsLoader}
use Rattle.board_jobs.specs.Calls.{GoesOn}
use Rattle.board_jobs.proofs.Loading.{IsFedTo}
use Rattle.board_jobs.proofs.load.load_file.Given as goal

abbrev pub invariant-loop-rest : goal.invariant-loop-rest
invariant-loop-rest g l = record {
  goes_on : l.reader.finished ≡ false;
  room : l.reader.fed + length l.rest ≡ length l.bytes;
  loader : IsLoader l.caller;
  caller : GoesOn l.board l.fn.caller l.caller;
  fed : IsFedTo l.board.shape l.fn.caller.account l.caller.account l.bytes l.rest l.reader l.lines.items;
}

abbrev pub decreases-loop-rest : goal.decreases-loop-rest
decreases-loop-rest g l = length l.rest
