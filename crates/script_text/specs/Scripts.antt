-- Which lines are a script, and its groups (this project's own).
use Rattle.std.specs.Prelude.{◌≡◌, ℕ, ◌+◌, ◌-◌, ◌≤◌, List, [], ◌∷◌, length, take, filter, Bool, true, false, not, ◌&&◌}
use Rattle.std.specs.Prelude.{nat_le}
use Rattle.std.specs.List.{list_all}
use Rattle.script_text.specs.declared.script.Job.{Job}
use Rattle.script_text.specs.declared.script.Group.{Group}
use Rattle.script_text.specs.declared.script.Script.{Script}
use Rattle.script_text.specs.declared.saying.Saying.{Saying}
use Rattle.script_text.specs.declared.saying.Saying.TheVariants.{Passed, Settles, Asks, Wrong}
use Rattle.script_text.specs.Grammar.{says}

abbrev pub is_job : Saying → Bool
is_job (Asks order) = true
is_job _ = false

abbrev pub is_wrong : Saying → Bool
is_wrong Wrong = true
is_wrong _ = false

-- the number of jobs of these lines
unfoldable pub count_jobs : List (List ℕ) → ℕ
count_jobs lines = length (filter (λ line. is_job (says line)) lines)

-- each line says something, and they have at most 65,536 jobs
unfoldable pub is_sound : List (List ℕ) → Bool
is_sound lines = list_all (λ line. not (is_wrong (says line))) lines && nat_le (count_jobs lines) 65536

-- the line of this number, counted from 1, is the first at fault: the lines before it are sound, and with it they are
-- not
pub record IsFirstFault (lines : List (List ℕ)) (number : ℕ) : Type 0 where
  pub within : (1 ≤ number) × (number ≤ length lines)
  pub sound : is_sound (take (number - 1) lines) ≡ true
  pub faulty : is_sound (take number lines) ≡ false

-- the groups of which the first begins with this job
abbrev pub with_job : Job → List Group → List Group
with_job job [] = []
with_job job (group ∷ groups) = record { jobs = job ∷ group.jobs } ∷ groups

-- the groups with what this line, which has this number, adds at their front
abbrev pub with_line : ℕ → Saying → List Group → List Group
with_line number (Asks order) groups = with_job (record { line = number; order = order }) groups
with_line number Settles groups = record { jobs = [] } ∷ groups
with_line number Passed groups = groups
with_line number Wrong groups = groups

-- the groups of lines of which the first has this number: the jobs between lines `settle`, one group more than there
-- are such lines
abbrev pub groups_from : ℕ → List (List ℕ) → List Group
groups_from number [] = record { jobs = [] } ∷ []
groups_from number (line ∷ lines) = with_line number (says line) (groups_from (number + 1) lines)

-- it is the script of sound lines
pub record IsScriptOf (lines : List (List ℕ)) (script : Script) : Type 0 where
  pub sound : is_sound lines ≡ true
  pub groups : script.groups ≡ groups_from 1 lines
