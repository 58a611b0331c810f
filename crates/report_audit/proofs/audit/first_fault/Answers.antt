use Rattle.std.proofs.Common.{◌≡◌, ◌⊎◌, ℕ, ◌+◌, ◌≤◌, ◌∙◌, List, [], length, ap, sym, subst, refl, arith}
use Rattle.report_text.specs.declared.report.LogLine.{LogLine}
use Rattle.report_text.specs.declared.report.Block.{Block}
use Rattle.script_text.specs.declared.script.Group.{Group}
use Rattle.report_text.specs.Values.{IsInGrammar}
use Rattle.report_rules.specs.Dealing.{dealt}
use Rattle.report_rules.specs.Reports.{IsReport}
use Rattle.told_history.specs.declared.told.Told.{Told}
use Rattle.report_audit.specs.declared.turns.Turns.{Turns}
use Rattle.report_audit.specs.Audits.{IsCase}
use Rattle.report_rules.specs.Faults.{IsEventFault, IsFirstFault, IsRuleFault, IsUnnamed, line_after, line_of_event, setting_of, told_from}
use Rattle.report_audit.specs.BlockChecks.{IsAllKept}
use Rattle.told_history.specs.Logs.{IsSoundLog}
use Rattle.report_audit.proofs.Founds.{err_at, ok_at, ok_none, ok_some}
use Rattle.told_history.proofs.LogChecks.{length_told}
use Rattle.report_audit.proofs.Verdicts.{AreAllKeptIn, IsFoundIn, event_fault, is_told, later_fault, length_fault, outside_from, shape_fault, turns_of, whole_log, within_from}
use Rattle.report_audit.proofs.audit.first_fault.Goals as goal

pub returns-then-is_some-clause-fault : goal.returns-then-is_some-clause-fault
returns-then-is_some-clause-fault c = λ script files case.
    shape_fault script files c.args.report.now c.args.jobs.now c.args.reads.now c.args.table.now case
    (outside_from c.args.report.now.shape c.first_outside.result (sym c.is_some.ensures ∙ c.if-is_some.true) c.first_outside.ensures.outside)

pub returns-then-lines-report-clause-fault : goal.returns-then-lines-report-clause-fault
returns-then-lines-report-clause-fault c = λ script files case.
    length_fault script files c.args.report.now c.args.jobs.now c.args.reads.now c.args.table.now c.line_after-log.result case
    (within_from c.args.report.now.shape c.first_outside.result (sym c.is_some.ensures ∙ c.if-is_some.false) c.first_outside.ensures.within)
    (omega (arith, c.if-lines-report.true, ap length c.as_slice-lines.ensures)) (c.line_after-log.ensures ∙ ap line_after c.as_slice-blocks.ensures)

pub overflow_add-result : goal.overflow_add-result
overflow_add-result c =
    let fault = (err_at _ c.in-Err.field-0 _ c.in-Err.is c.in_ok-number.ensures.broken) [] in
    let within = fault.within in
    let told = length_told [] 1 c.as_slice-lines.result.now in
    let long = ap length c.as_slice-lines.ensures in
    let log = c.line_after-log.ensures ∙ ap line_after c.as_slice-blocks.ensures in
    omega (arith, c.from.ensures, within, told, long, log, c.requires.lines)

pub first_later_fault-requires-clause-whole : goal.first_later_fault-requires-clause-whole
first_later_fault-requires-clause-whole c =
    let sound = (ok_at _ c.in-Ok.withdrawals _ c.in-Ok.is c.in_ok-number.ensures.sound) [] in
    let long = ap length c.as_slice-lines.ensures in
    record {
      few = omega (arith, long, c.requires.few);
      withdrawals = ap length c.deref.ensures.value ∙ sound.are.length_is ∙ length_told [] 1 c.as_slice-lines.result.now;
      table = c.requires.table ∙ sym long;
      marked = c.requires.marked;
    }

pub returns-in-Err-clause-fault : goal.returns-in-Err-clause-fault
returns-in-Err-clause-fault c = λ script files case.
    let fault = (err_at _ c.in-Err.field-0 _ c.in-Err.is c.in_ok-number.ensures.broken) case.named in
    event_fault script files c.args.report.now c.args.jobs.now c.args.reads.now c.args.table.now _ c.in-Err.field-0.number case
    (within_from c.args.report.now.shape c.first_outside.result (sym c.is_some.ensures ∙ c.if-is_some.false) c.first_outside.ensures.within)
    (omega (arith, c.if-lines-report.false, ap length c.as_slice-lines.ensures))
    (subst (λ (ls : List LogLine). IsEventFault c.args.report.now.shape (told_from case.named 1 ls) c.in-Err.field-0.number) c.as_slice-lines.ensures fault)
    (ap (λ (n : ℕ). n + c.from.result) (c.line_after-log.ensures ∙ ap line_after c.as_slice-blocks.ensures) ∙ ap (λ (n : ℕ). line_after c.args.report.now.blocks + n) c.from.ensures)

pub returns-in-Ok-clause-fault : goal.returns-in-Ok-clause-fault
returns-in-Ok-clause-fault c =
    let told : Told = record { lines = c.as_slice-lines.result; withdrawals = c.deref.result; table = c.args.table } in
    let turns : Turns = record { alloc = c.args.alloc; shape = c.args.report.now.shape; budget = c.args.report.now.budget; jobs = c.args.jobs; reads = c.args.reads; blocks = c.as_slice-blocks.result } in
    let step : (line : ℕ) → IsFoundIn told turns line → (script : List Group) (files : List (ℕ × List ℕ)) → IsCase script files c.args.report.now c.args.jobs.now c.args.reads.now c.args.table.now → IsFirstFault script files c.args.report.now line = λ line fault script files case.
    let sound = (ok_at _ c.in-Ok.withdrawals _ c.in-Ok.is c.in_ok-number.ensures.sound) case.named in
    let events = c.as_slice-lines.ensures in
    let whole = subst (λ (ls : List LogLine). IsSoundLog c.args.report.now.shape ls c.in-Ok.withdrawals.items case.named) events sound in
    let shape = within_from c.args.report.now.shape c.first_outside.result (sym c.is_some.ensures ∙ c.if-is_some.false) c.first_outside.ensures.within in
    let short : length c.args.report.now.events ≤ c.args.report.now.shape.log = omega (arith, c.if-lines-report.false, ap length events) in
    let h = told_from case.named 1 c.args.report.now.events in
    let s = setting_of files c.args.report.now h in
    let are = turns_of script files c.args.report.now c.args.jobs.now c.args.reads.now c.args.table.now c.in-Ok.withdrawals.items case told turns whole events c.deref.ensures.value refl refl refl refl refl in
    let found = subst (λ (bs : List Block). IsRuleFault s (dealt c.args.report.now.shape 1 script) bs line
    ⊎ ((number : ℕ) × (line ≡ line_after bs + number) × IsUnnamed s (dealt c.args.report.now.shape 1 script) bs number)) c.as_slice-blocks.ensures (fault script s are) in
    later_fault script files c.args.report.now c.args.jobs.now c.args.reads.now c.args.table.now line c.in-Ok.withdrawals.items case shape short whole found in
    ok_some c.first_later_fault.result (IsFoundIn told turns) (λ (line : ℕ). (script : List Group) (files : List (ℕ × List ℕ)) → IsCase script files c.args.report.now c.args.jobs.now c.args.reads.now c.args.table.now → IsFirstFault script files c.args.report.now line) step c.first_later_fault.ensures.fault

pub returns-in-Ok-clause-none : goal.returns-in-Ok-clause-none
returns-in-Ok-clause-none c =
    let told : Told = record { lines = c.as_slice-lines.result; withdrawals = c.deref.result; table = c.args.table } in
    let turns : Turns = record { alloc = c.args.alloc; shape = c.args.report.now.shape; budget = c.args.report.now.budget; jobs = c.args.jobs; reads = c.args.reads; blocks = c.as_slice-blocks.result } in
    let step : AreAllKeptIn told turns → (script : List Group) (files : List (ℕ × List ℕ)) → IsCase script files c.args.report.now c.args.jobs.now c.args.reads.now c.args.table.now → IsInGrammar c.args.report.now
    → IsReport script files c.args.report.now.shape c.args.report.now.budget c.args.report.now = λ all script files case grammar.
    let sound = (ok_at _ c.in-Ok.withdrawals _ c.in-Ok.is c.in_ok-number.ensures.sound) case.named in
    let events = c.as_slice-lines.ensures in
    let whole = subst (λ (ls : List LogLine). IsSoundLog c.args.report.now.shape ls c.in-Ok.withdrawals.items case.named) events sound in
    let shape = within_from c.args.report.now.shape c.first_outside.result (sym c.is_some.ensures ∙ c.if-is_some.false) c.first_outside.ensures.within in
    let short : length c.args.report.now.events ≤ c.args.report.now.shape.log = omega (arith, c.if-lines-report.false, ap length events) in
    let h = told_from case.named 1 c.args.report.now.events in
    let s = setting_of files c.args.report.now h in
    let are = turns_of script files c.args.report.now c.args.jobs.now c.args.reads.now c.args.table.now c.in-Ok.withdrawals.items case told turns whole events c.deref.ensures.value refl refl refl refl refl in
    let kept = subst (λ (bs : List Block). IsAllKept s (dealt c.args.report.now.shape 1 script) bs) c.as_slice-blocks.ensures (all script s are) in
    c.law_of_reports.ensures script files c.args.report.now h kept.done grammar (is_told script files c.args.report.now c.args.jobs.now c.args.reads.now c.args.table.now case) shape short
    (whole_log script files c.args.report.now c.args.jobs.now c.args.reads.now c.args.table.now c.in-Ok.withdrawals.items case whole) kept.kept kept.jobs_all kept.blocks_all kept.named in
    ok_none c.first_later_fault.result (AreAllKeptIn told turns) ((script : List Group) (files : List (ℕ × List ℕ)) → IsCase script files c.args.report.now c.args.jobs.now c.args.reads.now c.args.table.now → IsInGrammar c.args.report.now
    → IsReport script files c.args.report.now.shape c.args.report.now.budget c.args.report.now) step c.first_later_fault.ensures.none
