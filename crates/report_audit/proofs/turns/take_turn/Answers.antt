use Rattle.std.proofs.Common.{◌≡◌, ◌⊎◌, ◌∙◌, ◌+◌, ℕ, List, inl, inr, length, take, refl, sym, ap, subst, arith}
use Rattle.std.specs.Prelude.{Some}
use Rattle.std.specs.List.{flat_map}
use Rattle.std.proofs.lemmas.Option.{slice_get_read}
use Rattle.report_rules.specs.Reports.{done_lines}
use Rattle.report_audit.specs.BlockChecks.{IsFaultyNext, IsFaultyTurn, IsKeptNext, IsKeptTurn}
use Rattle.told_history.specs.LaidJobs.{dealt_by}
use Rattle.report_audit.proofs.Founds.{ok_none, ok_some}
use Rattle.report_audit.proofs.Turning.{fault_at, kept_at, turn_at}
use Rattle.report_audit.proofs.turns.take_turn.Goals as goal

pub returns-clause-kept : goal.returns-clause-kept
returns-clause-kept c =
    let laid = c.index-jobs-index.result in
    let jobs_at = slice_get_read c.args.turns.now.jobs.now _ c.args.index laid refl (omega (arith, c.if-index-jobs.false)) c.index-jobs-index.is in
    let reads_at = slice_get_read c.args.turns.now.reads.now _ c.args.index c.index-reads-index.result refl (omega (arith, c.if-index-jobs.false, c.requires.reads)) c.index-reads-index.is in
    let blocks_at = slice_get_read c.args.turns.now.blocks.now _ c.args.index c.index-blocks-index.result refl (omega (arith, c.if-index-blocks.false)) c.index-blocks-index.is in
    ok_none c.take_block.result
    (IsKeptTurn c.args.told.now c.enter.new.self c.take_block.new.so_far c.args.turns.now c.caller_for-caller.result laid.job.now c.index-reads-index.result c.index-blocks-index.result)
    (IsKeptNext c.args.told.now c.args.so_far.now c.take_block.new.so_far c.args.turns.now c.args.index)
    (λ kept script s are has.
    let turn = turn_at c.args.told.now c.args.turns.now script s c.args.index laid c.index-reads-index.result c.args.so_far.now c.enter.new.self c.caller_for-caller.result c.args.turns.now.blocks.now are jobs_at reads_at has
    c.enter.ensures.lines c.enter.ensures.group c.enter.ensures.long c.caller_for-caller.ensures.is in (
      omega (arith, c.if-index-jobs.false),
      omega (arith, c.if-index-blocks.false),
      kept_at c.args.told.now c.args.turns.now script s c.args.index laid c.args.so_far.now c.take_block.new.so_far c.args.turns.now.blocks.now c.index-blocks-index.result are jobs_at blocks_at has
          (kept s (flat_map done_lines has.done) (dealt_by s.shape laid) are.shape_is are.budget_is refl turn),
    ))
    c.take_block.ensures.kept

pub returns-clause-fault : goal.returns-clause-fault
returns-clause-fault c =
    let laid = c.index-jobs-index.result in
    let jobs_at = slice_get_read c.args.turns.now.jobs.now _ c.args.index laid refl (omega (arith, c.if-index-jobs.false)) c.index-jobs-index.is in
    let reads_at = slice_get_read c.args.turns.now.reads.now _ c.args.index c.index-reads-index.result refl (omega (arith, c.if-index-jobs.false, c.requires.reads)) c.index-reads-index.is in
    let blocks_at = slice_get_read c.args.turns.now.blocks.now _ c.args.index c.index-blocks-index.result refl (omega (arith, c.if-index-blocks.false)) c.index-blocks-index.is in
    ok_some c.take_block.result
    (IsFaultyTurn c.args.told.now c.enter.new.self c.args.turns.now c.caller_for-caller.result laid.job.now c.index-reads-index.result c.index-blocks-index.result)
    (IsFaultyNext c.args.told.now c.args.so_far.now c.args.turns.now c.args.index)
    (λ offset fault script s are has.
    let turn = turn_at c.args.told.now c.args.turns.now script s c.args.index laid c.index-reads-index.result c.args.so_far.now c.enter.new.self c.caller_for-caller.result c.args.turns.now.blocks.now are jobs_at reads_at has
    c.enter.ensures.lines c.enter.ensures.group c.enter.ensures.long c.caller_for-caller.ensures.is in
    fault_at c.args.told.now c.args.turns.now script s c.args.index offset laid c.args.so_far.now c.args.turns.now.blocks.now c.index-blocks-index.result are jobs_at blocks_at has
    (fault s (flat_map done_lines has.done) (dealt_by s.shape laid) are.shape_is are.budget_is refl turn))
    c.take_block.ensures.fault
