use Rattle.std.proofs.Common.{◌≡◌, take}
use Rattle.report_rules.specs.Faults.{line_after}
use Rattle.report_audit.proofs.turns.line_after.Given as goal

abbrev pub invariant-loop-here : goal.invariant-loop-here
invariant-loop-here l = l.line ≡ line_after (take l.here-index l.blocks)
