use Rattle.report_audit.proofs.Tallying.{entered}
use Rattle.report_audit.proofs.tally.Tally.enter.Goals as goal

pub returns-then-self-group-clause-tally : goal.returns-then-self-group-clause-tally
returns-then-self-group-clause-tally c = λ lines tally. entered lines c.args.self.now c.args.group c.if-self-group.true tally
