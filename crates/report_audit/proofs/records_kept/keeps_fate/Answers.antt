use Rattle.std.proofs.Common.{◌≡◌, ◌∙◌, ap, sym, subst, arith}
use Rattle.std.proofs.lemmas.List.Elements.{All-nil}
use Rattle.htss_defs.specs.declared.history.Event.TheVariants.{Publish}
use Rattle.htss_defs.specs.declared.record.NamedMol.{NamedMol}
use Rattle.htss_defs.specs.declared.shape.Shape.{Shape}
use Rattle.report_text.specs.declared.report.LoadLine.{LoadLine}
use Rattle.report_rules.specs.Answers.{RecordAnswer, log_full, no_room, published, record_line, taken, to_record}
use Rattle.report_rules.specs.Faults.{IsAsLogged, answer_line, keeps, line_by}
use Rattle.report_rules.specs.Rules.{IsRoomLeft, caller_number}
use Rattle.told_history.specs.declared.records.RecordRead.{RecordRead}
use Rattle.report_audit.specs.LineChecks.{answer_to, fate_of}
use Rattle.report_audit.proofs.Keeping.{answer_back, as_long, event_taken, is_next, keeps_publication}
use Rattle.report_audit.proofs.records_kept.keeps_fate.Goals as goal

pub returns-in-Published-clause-kept : goal.returns-in-Published-clause-kept
returns-in-Published-clause-kept c = λ yes s earlier one shape next. subst (λ (l : LoadLine). keeps s earlier (answer_line one (taken (record { name = c.args.name.now; mol = c.args.mol.now }) (fate_of l)))) (sym c.in-Published.is) (c.keeps_published.ensures.kept yes s earlier one next)

pub returns-in-Published-clause-fault : goal.returns-in-Published-clause-fault
returns-in-Published-clause-fault c = λ no s earlier one shape next kept. c.keeps_published.ensures.fault no s earlier one next (subst (λ (l : LoadLine). keeps s earlier (answer_line one (taken (record { name = c.args.name.now; mol = c.args.mol.now }) (fate_of l)))) c.in-Published.is kept)

pub returns-then-is_need-clause-kept : goal.returns-then-is_need-clause-kept
returns-then-is_need-clause-kept c = λ yes s earlier one shape next.
    let line = to_record (taken (record { name = c.args.name.now; mol = c.args.mol.now }) (no_room c.in-DataFull.left c.in-DataFull.need)) in
    let need = c.is_need.ensures.0 c.if-is_need.true in
    subst (λ (l : LoadLine). keeps s earlier (answer_line one (taken (record { name = c.args.name.now; mol = c.args.mol.now }) (fate_of l)))) (sym c.in-DataFull.is) (record {
      rule = (
        need.0,
        need.1,
        subst (λ (k : Shape). IsRoomLeft k earlier (line_by one line) c.in-DataFull.left) (sym shape)
            (c.is_room_left.ensures.left yes earlier (line_by one line) (is_next c.args.told.now c.args.so_far.now c.args.caller s earlier one line next) next.lines.tally),
      );
      logged = All-nil (IsAsLogged s.events s.history);
    })

pub returns-then-is_need-clause-fault : goal.returns-then-is_need-clause-fault
returns-then-is_need-clause-fault c = λ no s earlier one shape next kept.
    let line = to_record (taken (record { name = c.args.name.now; mol = c.args.mol.now }) (no_room c.in-DataFull.left c.in-DataFull.need)) in
    let rule = subst (λ (l : LoadLine). keeps s earlier (answer_line one (taken (record { name = c.args.name.now; mol = c.args.mol.now }) (fate_of l)))) c.in-DataFull.is kept in
    c.is_room_left.ensures.other no earlier (line_by one line) (is_next c.args.told.now c.args.so_far.now c.args.caller s earlier one line next) next.lines.tally
    (subst (λ (k : Shape). IsRoomLeft k earlier (line_by one line) c.in-DataFull.left) shape rule.rule.2)

pub returns-then-is_full_front-clause-kept : goal.returns-then-is_full_front-clause-kept
returns-then-is_full_front-clause-kept c = λ yes s earlier one shape next.
    let line = to_record (taken (record { name = c.args.name.now; mol = c.args.mol.now }) (log_full c.in-LogFull.front)) in
    let full = c.is_full_front.ensures.0 c.if-is_full_front.true in
    let within = full.1 in
    subst (λ (l : LoadLine). keeps s earlier (answer_line one (taken (record { name = c.args.name.now; mol = c.args.mol.now }) (fate_of l)))) (sym c.in-LogFull.is) (record {
      rule = (
        full.0 ∙ sym (ap (λ (k : Shape). k.log) shape),
        omega (arith, within, as_long c.args.told.now c.args.so_far.now c.args.caller s earlier one next),
        c.is_refusing_front.ensures.front yes earlier (line_by one line) (is_next c.args.told.now c.args.so_far.now c.args.caller s earlier one line next) next.lines.tally,
      );
      logged = All-nil (IsAsLogged s.events s.history);
    })

pub returns-then-is_full_front-clause-fault : goal.returns-then-is_full_front-clause-fault
returns-then-is_full_front-clause-fault c = λ no s earlier one shape next kept.
    let line = to_record (taken (record { name = c.args.name.now; mol = c.args.mol.now }) (log_full c.in-LogFull.front)) in
    let rule = subst (λ (l : LoadLine). keeps s earlier (answer_line one (taken (record { name = c.args.name.now; mol = c.args.mol.now }) (fate_of l)))) c.in-LogFull.is kept in
    c.is_refusing_front.ensures.short no earlier (line_by one line) (is_next c.args.told.now c.args.so_far.now c.args.caller s earlier one line next) next.lines.tally rule.rule.2
