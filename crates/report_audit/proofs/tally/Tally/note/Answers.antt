use Rattle.report_audit.specs.Callers.{caller_of}
use Rattle.report_audit.proofs.Tallying.{noted}
use Rattle.report_audit.proofs.tally.Tally.note.Goals as goal

pub returns-clause-tally : goal.returns-clause-tally
returns-clause-tally c = λ lines line by in_group has tally.
    noted lines line c.args.self.now (caller_of c.args.caller) c.args.carried c.place-place.result c.max.result c.max-2.result c.saturating_add.result c.max-self.result c.max-self-2.result
    by in_group c.requires has tally c.place-place.ensures.at c.max.ensures c.max-2.ensures c.saturating_add.ensures c.max-self.ensures c.max-self-2.ensures
