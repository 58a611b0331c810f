use Rattle.std.proofs.Common.{◌≡◌, ◌∙◌, ap, sym, subst}
use Rattle.htss_defs.specs.declared.shape.Shape.{Shape}
use Rattle.report_text.specs.declared.report.WithdrawLine.{WithdrawLine}
use Rattle.report_rules.specs.Answers.{to_withdrawal}
use Rattle.report_rules.specs.Faults.{keeps, line_by}
use Rattle.report_audit.proofs.withdrawals.keeps_withdrawal.Goals as goal

pub returns-in-At-clause-kept : goal.returns-in-At-clause-kept
returns-in-At-clause-kept c = λ yes s earlier one shape next.
    subst (λ (a : WithdrawLine). keeps s earlier (line_by one (to_withdrawal c.args.number a))) (sym c.in-At.is) (c.keeps_at.ensures.kept yes s earlier one next)

pub returns-in-At-clause-fault : goal.returns-in-At-clause-fault
returns-in-At-clause-fault c = λ no s earlier one shape next kept.
    c.keeps_at.ensures.fault no s earlier one next (subst (λ (a : WithdrawLine). keeps s earlier (line_by one (to_withdrawal c.args.number a))) c.in-At.is kept)

pub returns-in-Unknown-clause-kept : goal.returns-in-Unknown-clause-kept
returns-in-Unknown-clause-kept c = λ yes s earlier one shape next.
    subst (λ (a : WithdrawLine). keeps s earlier (line_by one (to_withdrawal c.args.number a))) (sym c.in-Unknown.is) (c.keeps_unknown.ensures.kept yes s earlier one next)

pub returns-in-Unknown-clause-fault : goal.returns-in-Unknown-clause-fault
returns-in-Unknown-clause-fault c = λ no s earlier one shape next kept.
    c.keeps_unknown.ensures.fault no s earlier one next (subst (λ (a : WithdrawLine). keeps s earlier (line_by one (to_withdrawal c.args.number a))) c.in-Unknown.is kept)

pub returns-then-front-shape-clause-kept : goal.returns-then-front-shape-clause-kept
returns-then-front-shape-clause-kept c = λ yes s earlier one shape next.
    subst (λ (a : WithdrawLine). keeps s earlier (line_by one (to_withdrawal c.args.number a))) (sym c.in-LogFull.is)
    (c.keeps_full.ensures.kept yes s earlier one (ap (λ (k : Shape). k.log) shape ∙ sym c.if-front-shape.true) next)

pub returns-then-front-shape-clause-fault : goal.returns-then-front-shape-clause-fault
returns-then-front-shape-clause-fault c = λ no s earlier one shape next kept.
    c.keeps_full.ensures.fault no s earlier one next (subst (λ (a : WithdrawLine). keeps s earlier (line_by one (to_withdrawal c.args.number a))) c.in-LogFull.is kept)
