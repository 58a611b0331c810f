use Rattle.report_audit.proofs.Tallying.{tally_none}
use Rattle.report_audit.proofs.tally.Tally.new.Goals as goal

pub returns-clause-tally : goal.returns-clause-tally
returns-clause-tally c = tally_none
