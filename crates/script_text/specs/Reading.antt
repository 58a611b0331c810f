-- How far a script is read.
use Rattle.std.specs.Prelude.{◌≡◌, ℕ, ◌+◌, ◌≤◌, List, [], ◌∷◌, ◌++◌, length, take, drop, Option, Some, None, Bool, true}
use Rattle.std.specs.Prelude.{false, nat_lt, if◌then◌else◌}
use Rattle.script_text.specs.declared.script.Job.{Job}
use Rattle.script_text.specs.declared.script.Group.{Group}
use Rattle.script_text.specs.declared.saying.Saying.{Saying}
use Rattle.script_text.specs.declared.saying.Saying.TheVariants.{Passed, Settles, Asks, Wrong}
use Rattle.script_text.specs.Scripts.{count_jobs, groups_from, is_sound}

-- the number of all jobs, the groups that have ended, and the jobs of the one that has begun
pub record Progress : Type 0 where
  pub count : ℕ
  pub ended : List Group
  pub jobs : List Job

-- what a line of this number leaves, unless it is at fault
abbrev pub progress_after : ℕ → Saying → Progress → Option Progress
progress_after number Passed before = Some before
progress_after number Wrong before = None
progress_after number Settles before =
    Some (record { count = before.count; ended = before.ended ++ record { jobs = before.jobs } ∷ []; jobs = [] })
progress_after number (Asks order) before =
    if nat_lt before.count 65536
    then Some (record {
      count = before.count + 1;
      ended = before.ended;
      jobs = before.jobs
          ++ record { line = number; order = order } ∷ [];
    })
    else None

-- the progress, where the line was taken
abbrev pub where_taken : Bool → Progress → Option Progress
where_taken true progress = Some progress
where_taken false progress = None

-- the groups of which the first begins with these jobs
abbrev pub with_jobs : List Job → List Group → List Group
with_jobs jobs [] = []
with_jobs jobs (group ∷ groups) = record { jobs = jobs ++ group.jobs } ∷ groups

-- so many lines are read, and the rest is left
pub record IsReadTo (lines : List (List ℕ)) (number : ℕ) (rest : List (List ℕ)) (progress : Progress) : Type 0 where
  pub left : drop number lines ≡ rest
  pub within : number ≤ length lines
  pub sound : is_sound (take number lines) ≡ true
  pub counted : progress.count ≡ count_jobs (take number lines)
  pub groups : groups_from 1 lines ≡ progress.ended ++ with_jobs progress.jobs (groups_from (number + 1) rest)
