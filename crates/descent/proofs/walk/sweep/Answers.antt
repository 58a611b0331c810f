use Rattle.std.proofs.Common.{List, false}
use Rattle.board_core.specs.declared.account.View.{View}
use Rattle.board_core.specs.Words.{Parts}
use Rattle.board_core.specs.OldRows.{IsOldRow}
use Rattle.board_core.specs.Rows.{codes_in, IsPlaced}
use Rattle.board_core.specs.Boards.{HasBoard}
use Rattle.descent.specs.Seats.{seat_of}
use Rattle.descent.specs.Walks.{ChainRead, ChainTried}
use Rattle.descent.specs.Descended.{IsDescended, HasCut}
use Rattle.descent.proofs.Following.{ok_map}
use Rattle.descent.proofs.Tried.{err_map}
use Rattle.descent.proofs.Descending.{root_begun}
use Rattle.descent.proofs.Whole.{root_page, root_stands, root_fresh, only_all, whole, part}
use Rattle.descent.proofs.walk.sweep.Goals as goal

pub chain-requires-clause-stands : goal.chain-requires-clause-stands
chain-requires-clause-stands g c = root_stands c.args.board.now c.args.caller.now c.begin_walk.new.caller c.requires.fits c.requires.pinned c.begin_walk.ensures

pub chain-requires-clause-page : goal.chain-requires-clause-page
chain-requires-clause-page g c = root_page c.args.board.now.shape c.shape-limits.ensures.limits

pub chain-requires-clause-at : goal.chain-requires-clause-at
chain-requires-clause-at g c = root_begun (g.N.Asks.covers c.args.need.now) (seat_of c.begin_walk.new.caller.account) (root_fresh c.args.caller.now c.begin_walk.new.caller c.begin_walk.ensures)

pub returns-clause-only : goal.returns-clause-only
returns-clause-only g c = only_all c.args.board.now.shape (g.N.Asks.covers c.args.need.now) c.args.caller.now c.begin_walk.new.caller c.chain.new.caller c.begin_walk.ensures c.chain.ensures.only (g.S.RowSink.given c.args.sink.now) (g.S.RowSink.given c.chain.new.sink)

pub returns-clause-means : goal.returns-clause-means
returns-clause-means g c = ok_map c.chain.result
    (λ n. ChainRead c.args.board.now.shape.chain (g.N.Asks.covers c.args.need.now) 0 false (seat_of c.begin_walk.new.caller.account) (seat_of c.chain.new.caller.account) (g.S.RowSink.given c.args.sink.now) (g.S.RowSink.given c.chain.new.sink) n)
    (λ n. (p : Parts) (vs : List View) → HasBoard c.args.board.now.shape p vs c.chain.new.caller.account
    → IsDescended (codes_in c.args.board.now.shape p.regions) (IsPlaced vs) (IsOldRow c.args.board.now.shape p.regions p.log.slots c.args.caller.now.account.tree.front) (g.N.Asks.covers c.args.need.now) (seat_of c.args.caller.now.account).loads (seat_of c.chain.new.caller.account) (g.S.RowSink.given c.args.sink.now) (g.S.RowSink.given c.chain.new.sink) n)
    (λ n q p vs b. whole c.args.board.now.shape (g.N.Asks.covers c.args.need.now) c.args.caller.now c.begin_walk.new.caller c.chain.new.caller c.begin_walk.ensures c.chain.ensures.only (g.S.RowSink.given c.args.sink.now) (g.S.RowSink.given c.chain.new.sink) p vs b n q)
    c.chain.ensures.ok

pub returns-clause-cut : goal.returns-clause-cut
returns-clause-cut g c = err_map c.chain.result
    (ChainTried c.args.board.now.shape.chain (g.N.Asks.covers c.args.need.now) 0 false (seat_of c.begin_walk.new.caller.account) (seat_of c.chain.new.caller.account) (g.S.RowSink.given c.args.sink.now) (g.S.RowSink.given c.chain.new.sink))
    (HasCut c.args.board.now.shape (g.N.Asks.covers c.args.need.now) c.args.caller.now c.chain.new.caller (g.S.RowSink.given c.args.sink.now) (g.S.RowSink.given c.chain.new.sink))
    (λ q. part c.args.board.now.shape (g.N.Asks.covers c.args.need.now) c.args.caller.now c.begin_walk.new.caller c.chain.new.caller c.begin_walk.ensures c.chain.ensures.only (g.S.RowSink.given c.args.sink.now) (g.S.RowSink.given c.chain.new.sink) q)
    c.chain.ensures.err
