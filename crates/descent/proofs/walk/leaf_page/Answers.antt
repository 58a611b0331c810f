use Rattle.std.proofs.Common.{true, arith}
use Rattle.board_core.specs.Met.{HasMet}
use Rattle.board_core.proofs.Boards.{met_in_table}
use Rattle.descent.proofs.Standing.{only_same, only_on, of_on}
use Rattle.descent.proofs.Reading.{leaf_start, leaf_zero, leaf_entry, leaf_more, leaf_tried, leaf_full}
use Rattle.descent.specs.Seats.{seat_of}
use Rattle.descent.proofs.Boards.{some_moment}
use Rattle.descent.specs.Walks.{PageTried}
use Rattle.descent.proofs.Tried.{err_any}
use Rattle.descent.proofs.walk.leaf_page.Goals as goal

pub loop-index-init : goal.loop-index-init
loop-index-init g c = record { only = only_same c.args.caller.now; reading = leaf_start c.args.board.now.shape.chain (g.N.Asks.covers c.args.need.now) c.args.at.number c.args.at.page c.args.depth (seat_of c.args.caller.now.account) (g.S.RowSink.given c.args.sink.now) c.requires.at }

pub returns-then-row-eq0-clause-ok : goal.returns-then-row-eq0-clause-ok
returns-then-row-eq0-clause-ok g c = leaf_zero c.args.board.now.shape.chain (g.N.Asks.covers c.args.need.now) c.args.at.number c.args.at.page c.args.depth (seat_of c.args.caller.now.account) (g.S.RowSink.given c.args.sink.now) c.requires.at
    (seat_of c.loop-index.caller.account) (g.S.RowSink.given c.loop-index.sink) c.loop-index.index c.loop-index.invariant.reading (let auto = c.loop-index.auto in omega arith) (seat_of c.slot-row.new.caller.account) c.slot-row.result c.slot-row.ensures.after (some_moment c.args.board.now.shape c.slot-row.new.caller.account c.slot-row.ensures.board) c.if-row-eq0.true (omega arith)

pub offer-requires : goal.offer-requires
offer-requires g c =
    let entry = leaf_entry c.args.board.now.shape.chain (g.N.Asks.covers c.args.need.now) c.args.at.number c.args.at.page c.args.depth (seat_of c.args.caller.now.account) (g.S.RowSink.given c.args.sink.now) c.requires.at
    (seat_of c.loop-index.caller.account) (g.S.RowSink.given c.loop-index.sink) c.loop-index.index c.loop-index.invariant.reading (let auto = c.loop-index.auto in omega arith) (seat_of c.slot-row.new.caller.account) c.slot-row.result c.slot-row.ensures.after (some_moment c.args.board.now.shape c.slot-row.new.caller.account c.slot-row.ensures.board) c.if-row-eq0.false in
    let met : HasMet c.slot-row.new.caller.account c.args.at.number c.loop-index.index c.slot-row.result = record { reached = entry.inside; leaf = entry.leaf; read = entry.there } in record {
      fits = of_on c.args.board.now c.args.caller.now c.slot-row.new.caller c.requires.fits (only_on c.args.caller.now c.loop-index.caller c.slot-row.new.caller c.loop-index.invariant.only c.slot-row.ensures.only);
      met = met;
      place = met_in_table c.args.board.now.shape c.slot-row.new.caller.account c.args.at.number c.loop-index.index c.slot-row.result c.slot-row.ensures.board met;
    }

pub loop-index-preserved : goal.loop-index-preserved
loop-index-preserved g c = record {
  only = only_on c.args.caller.now c.slot-row.new.caller c.offer.new.caller (only_on c.args.caller.now c.loop-index.caller c.slot-row.new.caller c.loop-index.invariant.only c.slot-row.ensures.only) c.offer.ensures.only;
  reading = leaf_more c.args.board.now.shape.chain (g.N.Asks.covers c.args.need.now) c.args.at.number c.args.at.page c.args.depth (seat_of c.args.caller.now.account) (g.S.RowSink.given c.args.sink.now) c.requires.at
      (seat_of c.loop-index.caller.account) (g.S.RowSink.given c.loop-index.sink) c.loop-index.index c.loop-index.invariant.reading (let auto = c.loop-index.auto in omega arith) (seat_of c.slot-row.new.caller.account) c.slot-row.result c.slot-row.ensures.after (some_moment c.args.board.now.shape c.slot-row.new.caller.account c.slot-row.ensures.board) c.if-row-eq0.false
      (seat_of c.offer.new.caller.account) (g.S.RowSink.given c.offer.new.sink) c.slot-row.type_inv c.in_ok-offer.ensures.ok;
}

pub returns-clause-ok : goal.returns-clause-ok
returns-clause-ok g c = leaf_full c.args.board.now.shape.chain (g.N.Asks.covers c.args.need.now) c.args.at.number c.args.at.page c.args.depth (seat_of c.args.caller.now.account) (g.S.RowSink.given c.args.sink.now) c.requires.at
    (seat_of c.loop-index.caller.account) (g.S.RowSink.given c.loop-index.sink) c.loop-index.index c.loop-index.invariant.reading (let auto = c.loop-index.auto in omega arith) (let test = c.loop-index-test.false in let auto = c.loop-index.auto in omega arith)

pub returns-in_err-offer-clause-err : goal.returns-in_err-offer-clause-err
returns-in_err-offer-clause-err g c = err_any c.from_residual.result
    (PageTried c.args.board.now.shape.chain (g.N.Asks.covers c.args.need.now) c.args.at.number true (seat_of c.args.caller.now.account) (seat_of c.offer.new.caller.account) (g.S.RowSink.given c.args.sink.now) (g.S.RowSink.given c.offer.new.sink))
    (leaf_tried c.args.board.now.shape.chain (g.N.Asks.covers c.args.need.now) c.args.at.number c.args.at.page c.args.depth (seat_of c.args.caller.now.account) (g.S.RowSink.given c.args.sink.now) c.requires.at
    (seat_of c.loop-index.caller.account) (g.S.RowSink.given c.loop-index.sink) c.loop-index.index c.loop-index.invariant.reading (let auto = c.loop-index.auto in omega arith) (seat_of c.slot-row.new.caller.account) c.slot-row.result c.slot-row.ensures.after (some_moment c.args.board.now.shape c.slot-row.new.caller.account c.slot-row.ensures.board) c.if-row-eq0.false
    (seat_of c.offer.new.caller.account) (g.S.RowSink.given c.offer.new.sink) c.in_err-offer.ensures.err)

pub returns-then-row-eq0-clause-only : goal.returns-then-row-eq0-clause-only
returns-then-row-eq0-clause-only g c = only_on c.args.caller.now c.loop-index.caller c.slot-row.new.caller c.loop-index.invariant.only c.slot-row.ensures.only

pub returns-in_err-offer-clause-only : goal.returns-in_err-offer-clause-only
returns-in_err-offer-clause-only g c = only_on c.args.caller.now c.slot-row.new.caller c.offer.new.caller (only_on c.args.caller.now c.loop-index.caller c.slot-row.new.caller c.loop-index.invariant.only c.slot-row.ensures.only) c.offer.ensures.only
