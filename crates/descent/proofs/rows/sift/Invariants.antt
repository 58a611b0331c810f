use Rattle.board_core.specs.Rows.{block_named}
use Rattle.board_core.specs.Met.{HasHead}
use Rattle.descent.specs.Seats.{seat_of}
use Rattle.descent.specs.Standing.{OnlyLoads}
use Rattle.descent.proofs.Sifting.{Sifting}
use Rattle.descent.proofs.rows.sift.Given as goal

abbrev pub invariant-loop-level : goal.invariant-loop-level
invariant-loop-level g l = record {
  sifting : Sifting (g.N.Asks.covers l.need) l.row (seat_of l.fn.caller.account) (seat_of l.caller.account) l.level;
  head : HasHead l.caller.account (block_named l.row) l.head;
  only : OnlyLoads l.fn.caller l.caller;
}
