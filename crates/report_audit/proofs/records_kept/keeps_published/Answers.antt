use Rattle.std.proofs.Common.{◌≡◌, ◌∙◌, ap, sym, subst, arith}
use Rattle.std.proofs.lemmas.List.Elements.{All-nil}
use Rattle.htss_defs.specs.declared.history.Event.TheVariants.{Publish}
use Rattle.htss_defs.specs.declared.record.NamedMol.{NamedMol}
use Rattle.htss_defs.specs.declared.shape.Shape.{Shape}
use Rattle.report_text.specs.declared.report.LoadLine.{LoadLine}
use Rattle.report_rules.specs.Answers.{RecordAnswer, log_full, no_room, published, record_line, taken, to_record}
use Rattle.report_rules.specs.Faults.{IsAsLogged, answer_line, keeps, line_by}
use Rattle.report_rules.specs.Rules.{IsRoomLeft, caller_number}
use Rattle.told_history.specs.declared.records.RecordRead.{RecordRead}
use Rattle.report_audit.specs.LineChecks.{answer_to, fate_of}
use Rattle.report_audit.proofs.Keeping.{answer_back, as_long, event_taken, is_next, keeps_publication}
use Rattle.report_audit.proofs.records_kept.keeps_published.Goals as goal

pub returns-clause-kept : goal.returns-clause-kept
returns-clause-kept c = λ yes s earlier one next.
    let line = to_record (taken (record { name = c.args.name.now; mol = c.args.mol.now }) (published c.args.number)) in
    keeps_publication c.args.told.now c.args.so_far.now c.args.caller s earlier one c.args.name.now c.args.mol.now c.args.number next (c.is_publication.ensures.is c.if-not-is_publication.false s.history next.tells)
    (c.is_new.ensures.new yes earlier (line_by one line) (is_next c.args.told.now c.args.so_far.now c.args.caller s earlier one line next) next.lines)

pub returns-clause-fault : goal.returns-clause-fault
returns-clause-fault c = λ no s earlier one next kept.
    let line = to_record (taken (record { name = c.args.name.now; mol = c.args.mol.now }) (published c.args.number)) in
    c.is_new.ensures.old no earlier (line_by one line) (is_next c.args.told.now c.args.so_far.now c.args.caller s earlier one line next) next.lines kept.rule.0.0
    (event_taken c.args.told.now c.args.so_far.now c.args.caller s earlier one c.args.number (Publish (caller_number one.caller) c.args.name.now c.args.mol.now) next kept.rule.0) kept.rule.1
