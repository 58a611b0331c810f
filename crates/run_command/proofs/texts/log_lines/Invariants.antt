use Rattle.std.proofs.Common.{◌≡◌, map, take}
use Rattle.report_rules.specs.Reports.{log_line}
use Rattle.run_command.proofs.texts.log_lines.Given as goal

abbrev pub invariant-loop-event : goal.invariant-loop-event
invariant-loop-event l = l.lines.items ≡ map log_line (take l.event-index l.events)
