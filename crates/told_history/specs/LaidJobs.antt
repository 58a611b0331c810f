-- The jobs of a script one after the other, as the code has them.
use Rattle.std.specs.Prelude.{ℕ, List, sum_by}
use Rattle.htss_defs.specs.declared.shape.Shape.{Shape}
use Rattle.script_text.specs.declared.script.Job.{Job}
use Rattle.report_rules.specs.Dealing.{Dealt, caller_in_turn, loads_in, searches_in}
use Rattle.told_history.specs.declared.jobs.LaidJob.{LaidJob}

-- the job as a board of this shape deals it
abbrev pub dealt_by : Shape → LaidJob → Dealt
dealt_by shape laid = record {
  group = laid.group;
  caller = caller_in_turn shape laid.loads laid.searches laid.job.now.order;
  job = laid.job.now;
}

-- how many loads and withdrawals, and how many searches, the jobs are
abbrev pub loads_of : List Job → ℕ
loads_of jobs = sum_by (λ job. loads_in job.order) jobs

abbrev pub searches_of : List Job → ℕ
searches_of jobs = sum_by (λ job. searches_in job.order) jobs

abbrev pub job_of : LaidJob → Job
job_of laid = laid.job.now
