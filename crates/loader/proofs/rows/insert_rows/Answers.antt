use Rattle.loader.proofs.BlockRows.{not_placed, row_placed, row_refused}
use Rattle.loader.proofs.rows.insert_rows.Goals as goal

pub insert_row-requires-clause-fresh : goal.insert_row-requires-clause-fresh
insert_row-requires-clause-fresh c = not_placed c.args.caller.now.account c.loop-index.caller.account c.args.block c.loop-index.index c.loop-index.invariant.rows c.requires.fresh

pub returns-in-Err-clause-stopped : goal.returns-in-Err-clause-stopped
returns-in-Err-clause-stopped c =
    row_refused c.args.board.now.shape c.args.caller.now c.loop-index.caller c.insert_row.new.caller c.args.block c.args.atoms c.loop-index.index c.in-Err.refused c.loop-index.invariant.rows c.loop-index-test.true
    c.in-Err.ensures.begun c.in-Err.ensures.answer

pub loop-index-preserved : goal.loop-index-preserved
loop-index-preserved c = record {
  of = c.in-Ok.ensures.of;
  loader = c.in-Ok.ensures.loader;
  stocked = c.in-Ok.ensures.stocked;
  rows = row_placed c.args.board.now.shape c.args.caller.now.account c.loop-index.caller c.insert_row.new.caller c.args.block c.loop-index.index c.loop-index.invariant.rows c.in-Ok.ensures.begun c.in-Ok.ensures.answer;
}
