use Rattle.std.proofs.Common.{◌≡◌, ◌∙◌, ap, sym, arith}
use Rattle.std.proofs.lemmas.List.Elements.{All-nil}
use Rattle.report_text.specs.declared.report.WithdrawLine.TheVariants as answer
use Rattle.report_rules.specs.Answers.{to_withdrawal}
use Rattle.report_rules.specs.Faults.{IsAsLogged, line_by}
use Rattle.report_audit.proofs.Keeping.{as_long, event_taken, is_next, keeps_event}
use Rattle.report_audit.proofs.withdrawals.keeps_full.Goals as goal

pub returns-then-not-is_published-clause-fault : goal.returns-then-not-is_published-clause-fault
returns-then-not-is_published-clause-fault c = λ no s earlier one next kept. c.is_published.ensures.other c.if-not-is_published.true s.history next.tells kept.rule.2

pub is_withdrawn-requires-clause-some : goal.is_withdrawn-requires-clause-some
is_withdrawn-requires-clause-some c = (c.is_published.ensures.within c.if-not-is_published.false).0

pub is_withdrawn-requires-clause-within : goal.is_withdrawn-requires-clause-within
is_withdrawn-requires-clause-within c = (c.is_published.ensures.within c.if-not-is_published.false).1

pub returns-clause-kept : goal.returns-clause-kept
returns-clause-kept c = λ yes s earlier one log next.
    let line = to_withdrawal c.args.number (answer.LogFull c.args.front) in
    record {
      rule = (
        sym log,
        omega (arith, c.if-front-told.false, as_long c.args.told.now c.args.so_far.now c.args.caller s earlier one next),
        c.is_published.ensures.is c.if-not-is_published.false s.history next.tells,
        λ gone. c.is_withdrawn.ensures.other c.if-is_withdrawn.false s.history next.tells gone,
        c.is_refusing_front.ensures.front yes earlier (line_by one line) (is_next c.args.told.now c.args.so_far.now c.args.caller s earlier one line next) next.lines.tally,
      );
      logged = All-nil (IsAsLogged s.events s.history);
    }

pub returns-clause-fault : goal.returns-clause-fault
returns-clause-fault c = λ no s earlier one next kept.
    let line = to_withdrawal c.args.number (answer.LogFull c.args.front) in
    c.is_refusing_front.ensures.short no earlier (line_by one line) (is_next c.args.told.now c.args.so_far.now c.args.caller s earlier one line next) next.lines.tally kept.rule.4
