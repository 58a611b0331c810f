use Rattle.std.proofs.Common.{◌≡◌, ◌∙◌, ap, sym, subst, arith}
use Rattle.std.proofs.lemmas.List.Elements.{All-nil}
use Rattle.htss_defs.specs.declared.history.Event.TheVariants.{Publish}
use Rattle.htss_defs.specs.declared.record.NamedMol.{NamedMol}
use Rattle.htss_defs.specs.declared.shape.Shape.{Shape}
use Rattle.report_text.specs.declared.report.LoadLine.{LoadLine}
use Rattle.report_rules.specs.Answers.{RecordAnswer, log_full, no_room, published, record_line, taken, to_record}
use Rattle.report_rules.specs.Faults.{IsAsLogged, answer_line, keeps, line_by}
use Rattle.report_rules.specs.Rules.{IsRoomLeft, caller_number}
use Rattle.told_history.specs.declared.records.RecordRead.{RecordRead}
use Rattle.report_audit.specs.LineChecks.{answer_to, fate_of}
use Rattle.report_audit.proofs.Keeping.{answer_back, as_long, event_taken, is_next, keeps_publication}
use Rattle.report_audit.proofs.records_kept.keeps_record.Goals as goal

pub returns-then-is_line_at-clause-kept : goal.returns-then-is_line_at-clause-kept
returns-then-is_line_at-clause-kept c = λ yes s earlier one shape next.
    subst (λ (r : RecordRead). (record_line c.args.place (answer_to r c.args.line.now) ≡ c.args.line.now) × keeps s earlier (answer_line one (answer_to r c.args.line.now))) (sym c.in-Accepted.is)
    (c.is_line_at.ensures.0 c.if-is_line_at.true, c.keeps_fate.ensures.kept yes s earlier one shape next)

pub returns-then-is_line_at-clause-fault : goal.returns-then-is_line_at-clause-fault
returns-then-is_line_at-clause-fault c = λ no s earlier one shape next answer same printed kept.
    let back = answer_back c.args.place c.args.read.now answer c.args.line.now same printed ∙ ap (λ (r : RecordRead). answer_to r c.args.line.now) c.in-Accepted.is in
    c.keeps_fate.ensures.fault no s earlier one shape next (subst (λ (a : RecordAnswer). keeps s earlier (answer_line one a)) back kept)
