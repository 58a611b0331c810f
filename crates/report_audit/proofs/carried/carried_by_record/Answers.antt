use Rattle.std.proofs.Common.{◌∙◌, sym, subst}
use Rattle.report_rules.specs.Faults.{answer_line}
use Rattle.told_history.specs.declared.records.RecordRead.{RecordRead}
use Rattle.report_audit.specs.LineChecks.{answer_to}
use Rattle.report_audit.specs.Tallied.{IsCarried}
use Rattle.report_audit.proofs.carried.carried_by_record.Goals as goal

pub returns-in-Accepted : goal.returns-in-Accepted
returns-in-Accepted c = λ one.
    subst (λ (r : RecordRead). IsCarried (answer_line one (answer_to r c.args.line.now)) c.carried_by_line.result) (sym c.in-Accepted.is)
    (c.carried_by_line.ensures one (record { name = c.in-Accepted.name; mol = c.in-Accepted.mol }) (c.from.ensures ∙ c.words_of.ensures))
