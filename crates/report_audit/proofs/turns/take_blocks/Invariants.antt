use Rattle.std.proofs.Common.{◌≤◌, List, length}
use Rattle.script_text.specs.declared.script.Group.{Group}
use Rattle.report_rules.specs.Dealing.{dealt}
use Rattle.report_rules.specs.Faults.{Setting}
use Rattle.report_audit.specs.BlockChecks.{AreTurnsOf, HasKept}
use Rattle.report_audit.proofs.turns.take_blocks.Given as goal

abbrev pub invariant-loop-index : goal.invariant-loop-index
invariant-loop-index l = (script : List Group) (s : Setting) → AreTurnsOf l.told l.turns script s → HasKept l.told l.fn.so_far s (dealt s.shape 1 script) l.turns.blocks.now 0
    → HasKept l.told l.so_far s (dealt s.shape 1 script) l.turns.blocks.now l.index × (l.index ≤ length l.turns.jobs.now) × (l.index ≤ length l.turns.blocks.now)
