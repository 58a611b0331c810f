use Rattle.descent.specs.Seats.{seat_of}
use Rattle.descent.specs.Standing.{OnlyLoads}
use Rattle.descent.proofs.Reading.{LeafReading}
use Rattle.descent.proofs.walk.leaf_page.Given as goal

abbrev pub invariant-loop-index : goal.invariant-loop-index
invariant-loop-index g l = record {
  reading : LeafReading l.board.shape.chain (g.N.Asks.covers l.need) l.at.number (seat_of l.fn.caller.account) (seat_of l.caller.account) (g.S.RowSink.given l.fn.sink) (g.S.RowSink.given l.sink) l.index;
  only : OnlyLoads l.fn.caller l.caller;
}
