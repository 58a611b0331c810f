use Rattle.std.proofs.Common.{◌≡◌, ◌∙◌, ap, sym, arith}
use Rattle.std.proofs.lemmas.List.Elements.{All-nil}
use Rattle.report_text.specs.declared.report.WithdrawLine.TheVariants as answer
use Rattle.report_rules.specs.Answers.{to_withdrawal}
use Rattle.report_rules.specs.Faults.{IsAsLogged, line_by}
use Rattle.report_audit.proofs.Keeping.{as_long, event_taken, is_next, keeps_event}
use Rattle.report_audit.proofs.withdrawals.keeps_unknown.Goals as goal

pub returns-then-front-told-clause-fault : goal.returns-then-front-told-clause-fault
returns-then-front-told-clause-fault c = λ no s earlier one next kept.
    let within = kept.rule.0 in
    absurd (omega (arith, c.if-front-told.true, within, as_long c.args.told.now c.args.so_far.now c.args.caller s earlier one next))

pub returns-clause-kept : goal.returns-clause-kept
returns-clause-kept c = λ yes s earlier one next.
    let line = to_withdrawal c.args.number (answer.Unknown c.args.front) in
    record {
      rule = (
        omega (arith, c.if-front-told.false, as_long c.args.told.now c.args.so_far.now c.args.caller s earlier one next),
        λ shown. c.is_published.ensures.other c.if-is_published.false s.history next.tells shown,
        c.is_refusing_front.ensures.front yes earlier (line_by one line) (is_next c.args.told.now c.args.so_far.now c.args.caller s earlier one line next) next.lines.tally,
      );
      logged = All-nil (IsAsLogged s.events s.history);
    }

pub returns-clause-fault : goal.returns-clause-fault
returns-clause-fault c = λ no s earlier one next kept.
    let line = to_withdrawal c.args.number (answer.Unknown c.args.front) in
    c.is_refusing_front.ensures.short no earlier (line_by one line) (is_next c.args.told.now c.args.so_far.now c.args.caller s earlier one line next) next.lines.tally kept.rule.2
