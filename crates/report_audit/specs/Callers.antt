-- Callers, as the code has them.
use Rattle.std.specs.Prelude.{if◌then◌else◌}
use Rattle.report_rules.specs.Dealing as dealing
use Rattle.report_audit.specs.declared.tally.Caller.{Caller}

abbrev pub caller_of : Caller → dealing.Caller
caller_of caller = if caller.loads then dealing.loader caller.number else dealing.searcher caller.number
