use Rattle.std.proofs.Common.{◌≡◌, ◌∙◌, ap, sym, arith}
use Rattle.std.proofs.lemmas.List.Elements.{All-nil}
use Rattle.report_text.specs.declared.report.WithdrawLine.TheVariants as answer
use Rattle.report_rules.specs.Answers.{to_withdrawal}
use Rattle.report_rules.specs.Faults.{IsAsLogged, line_by}
use Rattle.report_audit.proofs.Keeping.{as_long, event_taken, is_next, keeps_event}
use Rattle.htss_defs.specs.declared.history.Event.TheVariants.{Withdraw}
use Rattle.report_rules.specs.Rules.{caller_number}
use Rattle.report_audit.proofs.withdrawals.keeps_at.Goals as goal

pub returns-clause-kept : goal.returns-clause-kept
returns-clause-kept c = λ yes s earlier one next.
    let line = to_withdrawal c.args.number (answer.At c.args.event) in
    keeps_event c.args.told.now c.args.so_far.now c.args.caller s earlier one c.args.number c.args.event next (c.is_withdrawal.ensures.is c.if-not-is_withdrawal.false s.history next.tells)
    (c.is_new.ensures.new yes earlier (line_by one line) (is_next c.args.told.now c.args.so_far.now c.args.caller s earlier one line next) next.lines)

pub returns-clause-fault : goal.returns-clause-fault
returns-clause-fault c = λ no s earlier one next kept.
    let line = to_withdrawal c.args.number (answer.At c.args.event) in
    c.is_new.ensures.old no earlier (line_by one line) (is_next c.args.told.now c.args.so_far.now c.args.caller s earlier one line next) next.lines kept.rule.0.0
    (event_taken c.args.told.now c.args.so_far.now c.args.caller s earlier one c.args.event (Withdraw (caller_number one.caller) c.args.number) next kept.rule.0) kept.rule.1
