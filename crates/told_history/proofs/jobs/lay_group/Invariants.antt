use Rattle.std.proofs.Common.{◌≡◌, ◌++◌, ◌+◌, map, take}
use Rattle.htss_defs.specs.declared.shape.Shape.{Shape}
use Rattle.report_rules.specs.Dealing.{dealt_from}
use Rattle.told_history.specs.LaidJobs.{dealt_by, loads_of, searches_of}
use Rattle.told_history.proofs.jobs.lay_group.Given as goal

abbrev pub invariant-loop-job : goal.invariant-loop-job
invariant-loop-job l = record {
  loads : l.loads ≡ loads_of (take l.job-index l.jobs);
  searches : l.searches ≡ searches_of (take l.job-index l.jobs);
  few : l.loads + l.searches ≡ l.job-index;
  laid : (shape : Shape) → map (dealt_by shape) l.laid.items ≡ map (dealt_by shape) l.fn.laid.items ++ dealt_from shape l.group 0 0 (take l.job-index l.jobs);
}
