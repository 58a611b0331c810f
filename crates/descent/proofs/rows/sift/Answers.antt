use Rattle.std.proofs.Common.{◌≡◌, true, false, refl}
use Rattle.board_core.specs.Rows.{block_named}
use Rattle.descent.specs.Seats.{seat_of}
use Rattle.descent.proofs.Sifting.{sifting_more, sifted_bad}
use Rattle.descent.proofs.Standing.{only_head}
use Rattle.descent.proofs.CodeLoads.{start_sifting, start_head, code_loaded, next_head, next_only}
use Rattle.descent.proofs.rows.sift.Goals as goal

pub loop-level-init : goal.loop-level-init
loop-level-init g c = record {
  sifting = start_sifting (g.N.Asks.covers c.args.need.now) c.args.row c.load_met_head-head.result c.args.caller.now c.load_met_head-head.new.caller c.load_met_head-head.ensures.after;
  head = start_head c.args.row c.load_met_head-head.result c.args.caller.now c.load_met_head-head.new.caller c.load_met_head-head.ensures.after;
  only = only_head c.args.caller.now c.load_met_head-head.new.caller (block_named c.args.row) c.load_met_head-head.result c.load_met_head-head.ensures.after;
}

pub returns-then-not-covers_code-clause-sifts : goal.returns-then-not-covers_code-clause-sifts
returns-then-not-covers_code-clause-sifts g c = sifted_bad (g.N.Asks.covers c.args.need.now) c.args.row (seat_of c.args.caller.now.account) (seat_of c.loop-level.caller.account) (seat_of c.load_met_code-code.new.caller.account) c.loop-level.level c.load_met_code-code.result
    c.loop-level.invariant.sifting (code_loaded c.args.row c.loop-level.level c.load_met_code-code.result c.loop-level.caller c.load_met_code-code.new.caller c.load_met_code-code.ensures.after) c.loop-level-test.true (λ ok. let clash : false ≡ true = c.if-not-covers_code.ensures.1 ok in cc)

pub loop-level-preserved : goal.loop-level-preserved
loop-level-preserved g c = record {
  sifting = sifting_more (g.N.Asks.covers c.args.need.now) c.args.row (seat_of c.args.caller.now.account) (seat_of c.loop-level.caller.account) (seat_of c.load_met_code-code.new.caller.account) c.loop-level.level c.load_met_code-code.result
      c.loop-level.invariant.sifting (code_loaded c.args.row c.loop-level.level c.load_met_code-code.result c.loop-level.caller c.load_met_code-code.new.caller c.load_met_code-code.ensures.after) (c.if-not-covers_code.ensures.0 refl);
  head = next_head c.args.row c.loop-level.level c.load_met_code-code.result c.loop-level.caller c.load_met_code-code.new.caller c.load_met_code-code.ensures.after c.load_met_head-head.result c.loop-level.invariant.head;
  only = next_only c.args.row c.loop-level.level c.load_met_code-code.result c.loop-level.caller c.load_met_code-code.new.caller c.load_met_code-code.ensures.after c.args.caller.now c.load_met_head-head.result c.loop-level.invariant.head c.load_met_head-head.ensures.atom c.loop-level.invariant.only;
}

pub returns-then-not-covers_code-clause-only : goal.returns-then-not-covers_code-clause-only
returns-then-not-covers_code-clause-only g c = next_only c.args.row c.loop-level.level c.load_met_code-code.result c.loop-level.caller c.load_met_code-code.new.caller c.load_met_code-code.ensures.after c.args.caller.now c.load_met_head-head.result c.loop-level.invariant.head c.load_met_head-head.ensures.atom c.loop-level.invariant.only
