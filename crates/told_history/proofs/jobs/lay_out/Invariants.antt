use Rattle.std.proofs.Common.{◌≡◌, map, take}
use Rattle.htss_defs.specs.declared.shape.Shape.{Shape}
use Rattle.report_rules.specs.Dealing.{dealt}
use Rattle.told_history.specs.LaidJobs.{dealt_by}
use Rattle.told_history.proofs.jobs.lay_out.Given as goal

abbrev pub invariant-loop-group : goal.invariant-loop-group
invariant-loop-group l = record {
  number : l.number ≡ l.group-index;
  laid : (shape : Shape) → map (dealt_by shape) l.laid.items ≡ dealt shape 1 (take l.group-index l.groups);
}
