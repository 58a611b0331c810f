use Rattle.std.proofs.Common.{◌≡◌, ◌≤◌, map, take}
use Rattle.told_history.specs.LaidJobs.{job_of, searches_of}
use Rattle.report_audit.proofs.audit.searches_among.Given as goal

abbrev pub invariant-loop-laid : goal.invariant-loop-laid
invariant-loop-laid l = record {
  is : l.count ≡ searches_of (map job_of (take l.laid-index l.jobs));
  few : l.count ≤ l.laid-index;
}
