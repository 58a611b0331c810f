use Rattle.std.proofs.Common.{All, take}
use Rattle.board_jobs.specs.Jobs.{IsThere}
use Rattle.board_tests.proofs.files.files_of.Given as goal

abbrev pub invariant-loop-job : goal.invariant-loop-job
invariant-loop-job l = All (λ job. IsThere l.files job.line job.order) (take l.job-index l.jobs)
