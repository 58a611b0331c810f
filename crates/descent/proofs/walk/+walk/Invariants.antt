use Rattle.std.proofs.Common.{◌+◌, ◌-◌, ◌*◌}
use Rattle.board_core.specs.Loaded.{IsPage}
use Rattle.descent.specs.Seats.{seat_of}
use Rattle.descent.specs.Visits.{visited}
use Rattle.descent.specs.Standing.{Stands, OnlyLoads}
use Rattle.descent.proofs.Inner.{InnerReading}
use Rattle.descent.proofs.Chains.{Chaining}
use Rattle.descent.proofs.walk.+walk.Given as goal

abbrev pub decreases-chain : goal.decreases-chain
decreases-chain g l = 4 * (6 - l.depth) + 3

abbrev pub decreases-follow : goal.decreases-follow
decreases-follow g l = 4 * (6 - l.depth)

abbrev pub decreases-inner_page : goal.decreases-inner_page
decreases-inner_page g l = 4 * (6 - l.depth) + 1

abbrev pub decreases-page : goal.decreases-page
decreases-page g l = 4 * (6 - l.depth) + 2

abbrev pub invariant-chain-chain : goal.invariant-chain-chain
invariant-chain-chain g l = record {
  chaining : Chaining (g.N.Asks.covers l.need) l.fn.first.number l.leaf l.depth (seat_of l.fn.caller.account) (seat_of l.caller.account) (g.S.RowSink.given l.fn.sink) (g.S.RowSink.given l.sink) l.at.number l.at.page l.rows;
  page : IsPage l.board.shape l.at.page;
  stands : Stands l.board l.caller l.count;
  only : OnlyLoads l.fn.caller l.caller;
}

abbrev pub decreases-chain-chain : goal.decreases-chain-chain
decreases-chain-chain g l = l.board.shape.chain - (visited (seat_of l.caller.account).reached l.at.number).rank

abbrev pub invariant-inner_page-loop-index : goal.invariant-inner_page-loop-index
invariant-inner_page-loop-index g l = record {
  reading : InnerReading l.board.shape.chain (g.N.Asks.covers l.need) l.at.number (seat_of l.fn.caller.account) (seat_of l.caller.account) (g.S.RowSink.given l.fn.sink) (g.S.RowSink.given l.sink) l.index l.rows;
  stands : Stands l.board l.caller l.count;
  only : OnlyLoads l.fn.caller l.caller;
}
