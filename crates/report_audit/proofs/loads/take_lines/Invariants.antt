use Rattle.std.proofs.Common.{◌≡◌, ◌⊎◌, ◌≤◌, List, length, map}
use Rattle.report_rules.specs.Dealing.{Dealt}
use Rattle.report_rules.specs.Faults.{Setting}
use Rattle.report_rules.specs.Rules.{Line}
use Rattle.report_audit.specs.BlockChecks.{HasLoaded}
use Rattle.report_audit.specs.LineChecks.{IsNextOf}
use Rattle.told_history.specs.Reads.{outcome_of}
use Rattle.report_audit.proofs.loads.take_lines.Given as goal

abbrev pub invariant-loop-index : goal.invariant-loop-index
invariant-loop-index l = (s : Setting) (earlier : List Line) (one : Dealt) → s.shape ≡ l.shape → IsNextOf l.told l.fn.so_far l.caller s earlier one
    → HasLoaded l.told l.so_far l.caller s earlier one (map outcome_of l.records) l.lines l.index × (l.index ≤ length l.records) × (l.index ≤ length l.lines)
