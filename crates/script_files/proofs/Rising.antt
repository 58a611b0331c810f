-- The lines of a script's jobs rise.
use Rattle.std.proofs.Common.{◌≡◌, ℕ, zero, suc, ◌+◌, ◌<◌, ◌≤◌, List, [], ◌∷◌, ◌++◌, length, take, refl, sym, ap, subst, ◌∙◌, append_assoc, arith}
use Rattle.std.specs.Prelude.{All, Contains, Option, slice_index_or}
use Rattle.std.proofs.lemmas.List.{get_or-append-add, get_or-take, length-append, length-take, map-append}
use Rattle.std.proofs.Math.Seq.{take-append-add}
use Rattle.std.proofs.lemmas.List.Elements.{All-cons, Contains-append_right}
use Rattle.std.proofs.lemmas.Grind.{flat_map-append}
use Rattle.outside.specs.Files.{File}
use Rattle.mol_section.specs.Lines.{lines_of}
use Rattle.script_text.specs.declared.script.Job.{Job}
use Rattle.script_text.specs.declared.script.Group.{Group}
use Rattle.script_text.specs.declared.saying.Saying.{Saying}
use Rattle.script_text.specs.declared.saying.Saying.TheVariants.{Passed, Settles, Asks, Wrong}
use Rattle.script_text.specs.Grammar.{says}
use Rattle.script_text.specs.Scripts.{groups_from, with_job, with_line}
use Rattle.command_ends.specs.RunText.{ScriptWasRead, jobs_of}
use Rattle.script_files.specs.JobFiles.{AreRising, IsAfter, RisesFrom, lines_of_jobs}

least_line : (first : ℕ) (jobs : List Job) → RisesFrom first (lines_of_jobs jobs) → (k : ℕ) (d : Job) → k < length jobs → first ≤ (slice_index_or jobs k d).line
least_line first [] rises k d lt = absurd (omega arith)
least_line first (job ∷ jobs) rises zero d lt = rises.0
least_line first (job ∷ jobs) rises (suc k) d lt = let rest : job.line + 1 ≤ (slice_index_or jobs k d).line = least_line (job.line + 1) jobs rises.1 k d (omega arith) in let here : first ≤ job.line = rises.0 in omega arith

later_line : (first : ℕ) (jobs : List Job) → RisesFrom first (lines_of_jobs jobs) → (i k : ℕ) (d e : Job) → i < k → k < length jobs → (slice_index_or jobs i d).line < (slice_index_or jobs k e).line
later_line first [] rises i k d e less lt = absurd (omega arith)
later_line first (job ∷ jobs) rises i zero d e less lt = absurd (omega arith)
later_line first (job ∷ jobs) rises zero (suc k) d e less lt = let rest : job.line + 1 ≤ (slice_index_or jobs k e).line = least_line (job.line + 1) jobs rises.1 k e (omega arith) in omega arith
later_line first (job ∷ jobs) rises (suc i) (suc k) d e less lt = later_line (job.line + 1) jobs rises.1 i k d e (omega arith) (omega arith)

-- the next job's line comes after those before it
pub after_those_before : (jobs : List Job) → AreRising jobs → (k : ℕ) (d : Job) → k < length jobs → IsAfter (take k jobs) (slice_index_or jobs k d).line
after_those_before jobs rises k d lt =
    λ i e less.
    let short = length-take k jobs in
    let within : i < k = omega arith in
    subst (λ (j : Job). j.line < (slice_index_or jobs k d).line) (sym (get_or-take k jobs i e within)) (later_line 1 jobs rises i k e d within lt)

-- the same of jobs that come after others
pub after_those_among : (before jobs : List Job) → AreRising (before ++ jobs) → (k : ℕ) (job : Job) → k < length jobs → job ≡ slice_index_or jobs k job → IsAfter (before ++ take k jobs) job.line
after_those_among before jobs rises k job lt is =
    let all : List Job = before ++ jobs in
    let at : slice_index_or all (length before + k) job ≡ job = get_or-append-add before jobs k job ∙ sym is in
    let within : length before + k < length all = omega (arith, lt, length-append before jobs) in
    let after = after_those_before all rises (length before + k) job within in
    subst (λ l. IsAfter l job.line) (take-append-add before jobs k) (subst (λ (j : Job). IsAfter (take (length before + k) all) j.line) at after)

sooner : (first second : ℕ) (lines : List ℕ) → first ≤ second → RisesFrom second lines → RisesFrom first lines
sooner first second [] le rises = rises
sooner first second (line ∷ lines) le rises = let at : second ≤ line = rises.0 in (omega arith, rises.1)

-- ---- groups of lines

with_job_rises : (number : ℕ) (job : Job) (groups : List Group) → job.line ≡ number → RisesFrom (number + 1) (lines_of_jobs (jobs_of groups)) → RisesFrom number (lines_of_jobs (jobs_of (with_job job groups)))
with_job_rises number job [] is rises = rises
with_job_rises number job (group ∷ groups) is rises = (omega arith, subst (λ n. RisesFrom (n + 1) (lines_of_jobs (jobs_of (group ∷ groups)))) (sym is) rises)

with_line_rises : (number : ℕ) (saying : Saying) (groups : List Group) → RisesFrom (number + 1) (lines_of_jobs (jobs_of groups)) → RisesFrom number (lines_of_jobs (jobs_of (with_line number saying groups)))
with_line_rises number (Asks order) groups rises = with_job_rises number (record { line = number; order = order }) groups refl rises
with_line_rises number Settles groups rises = sooner number (number + 1) (lines_of_jobs (jobs_of groups)) (omega arith) rises
with_line_rises number Passed groups rises = sooner number (number + 1) (lines_of_jobs (jobs_of groups)) (omega arith) rises
with_line_rises number Wrong groups rises = sooner number (number + 1) (lines_of_jobs (jobs_of groups)) (omega arith) rises

groups_rise : (number : ℕ) (lines : List (List ℕ)) → RisesFrom number (lines_of_jobs (jobs_of (groups_from number lines)))
groups_rise number [] = tt
groups_rise number (line ∷ lines) = with_line_rises number (says line) (groups_from (number + 1) lines) (groups_rise (number + 1) lines)

-- ---- lines that stand apart

at_least : (first : ℕ) (lines : List ℕ) → RisesFrom first lines → (line : ℕ) → Contains lines line → first ≤ line
at_least first [] rises line (k, lt, at) = absurd (omega arith)
at_least first (n ∷ lines) rises line (zero, lt, at) = let here : first ≤ n = rises.0 in omega arith
at_least first (n ∷ lines) rises line (suc k, lt, at) = let rest : n + 1 ≤ line = at_least (n + 1) lines rises.1 line (k, omega arith, at) in let here : first ≤ n = rises.0 in omega arith

apart : (first : ℕ) (xs ys : List ℕ) → RisesFrom first (xs ++ ys) → (a b : ℕ) → Contains xs a → Contains ys b → a < b
apart first [] ys rises a b (k, lt, at) in_ys = absurd (omega arith)
apart first (x ∷ xs) ys rises a b (zero, lt, at) in_ys =
    let least : x + 1 ≤ b = at_least (x + 1) (xs ++ ys) rises.1 b (Contains-append_right xs ys b in_ys) in omega arith
apart first (x ∷ xs) ys rises a b (suc k, lt, at) in_ys = apart (x + 1) xs ys rises.1 a b (k, omega arith, at) in_ys

jobs_around : (before after : List Group) (group : Group) → lines_of_jobs (jobs_of (before ++ group ∷ after)) ≡ (lines_of_jobs (jobs_of before) ++ lines_of_jobs group.jobs) ++ lines_of_jobs (jobs_of after)
jobs_around before after group =
    ap lines_of_jobs (flat_map-append (λ (g : Group). g.jobs) before (group ∷ after) ∙ sym (append_assoc (jobs_of before) group.jobs (jobs_of after)))
    ∙ map-append (λ (j : Job). j.line) (jobs_of before ++ group.jobs) (jobs_of after)
    ∙ ap (λ l. l ++ lines_of_jobs (jobs_of after)) (map-append (λ (j : Job). j.line) (jobs_of before) group.jobs)

script_rises : (told : Option (List File)) (script : List ℕ) (groups : List Group) → ScriptWasRead told script groups → RisesFrom 1 (lines_of_jobs (jobs_of groups))
script_rises told script groups read = subst (λ gs. RisesFrom 1 (lines_of_jobs (jobs_of gs))) (sym read.is.groups) (groups_rise 1 (lines_of read.bytes))

front_rises : (first : ℕ) (xs ys : List ℕ) → RisesFrom first (xs ++ ys) → RisesFrom first xs
front_rises first [] ys rises = tt
front_rises first (x ∷ xs) ys rises = (rises.0, front_rises (x + 1) xs ys rises.1)

back_rises : (first : ℕ) (xs ys : List ℕ) → RisesFrom first (xs ++ ys) → RisesFrom first ys
back_rises first [] ys rises = rises
back_rises first (x ∷ xs) ys rises = let here : first ≤ x = rises.0 in sooner first (x + 1) ys (omega arith) (back_rises (x + 1) xs ys rises.1)

-- the lines of a group come after those of the groups before
pub groups_apart : (told : Option (List File)) (script : List ℕ) (before after : List Group) (group : Group) → ScriptWasRead told script (before ++ group ∷ after) → (a b : ℕ) → Contains (lines_of_jobs (jobs_of before)) a → Contains (lines_of_jobs group.jobs) b → a < b
groups_apart told script before after group read a b in_before in_group =
    let all = subst (RisesFrom 1) (jobs_around before after group) (script_rises told script (before ++ group ∷ after) read) in
    apart 1 (lines_of_jobs (jobs_of before)) (lines_of_jobs group.jobs) (front_rises 1 (lines_of_jobs (jobs_of before) ++ lines_of_jobs group.jobs) (lines_of_jobs (jobs_of after)) all) a b in_before in_group

-- the lines of all jobs rise, also those of the groups so far
pub script_jobs_rise : (told : Option (List File)) (script : List ℕ) (groups : List Group) → ScriptWasRead told script groups → AreRising (jobs_of groups)
script_jobs_rise told script groups read = script_rises told script groups read

pub front_jobs_rise : (all front back : List Job) → all ≡ front ++ back → AreRising all → AreRising front
front_jobs_rise all front back is rises =
    front_rises 1 (lines_of_jobs front) (lines_of_jobs back) (subst (RisesFrom 1) (ap lines_of_jobs is ∙ map-append (λ (j : Job). j.line) front back) rises)

-- the lines of each group rise
each_rises : (before after groups : List Group) → groups ≡ before ++ after → RisesFrom 1 (lines_of_jobs (jobs_of groups)) → All (λ group. AreRising group.jobs) after
each_rises before [] groups is rises = λ k d lt. absurd (omega arith)
each_rises before (group ∷ after) groups is rises =
    let all = subst (RisesFrom 1) (jobs_around before after group) (subst (λ gs. RisesFrom 1 (lines_of_jobs (jobs_of gs))) is rises) in
    let front = front_rises 1 (lines_of_jobs (jobs_of before) ++ lines_of_jobs group.jobs) (lines_of_jobs (jobs_of after)) all in
    All-cons (λ (g : Group). AreRising g.jobs) group after (back_rises 1 (lines_of_jobs (jobs_of before)) (lines_of_jobs group.jobs) front)
    (each_rises (before ++ group ∷ []) after groups (is ∙ sym (append_assoc before (group ∷ []) after)) rises)

pub script_groups_rise : (told : Option (List File)) (script : List ℕ) (groups : List Group) → ScriptWasRead told script groups → All (λ group. AreRising group.jobs) groups
script_groups_rise told script groups read = each_rises [] groups groups refl (script_rises told script groups read)

-- ---- a script has a group

some_group : (number : ℕ) (saying : Saying) (groups : List Group) → 1 ≤ length groups → 1 ≤ length (with_line number saying groups)
some_group number (Asks order) [] some = some
some_group number (Asks order) (group ∷ groups) some = omega arith
some_group number Settles groups some = omega arith
some_group number Passed groups some = some
some_group number Wrong groups some = some

groups_are_some : (number : ℕ) (lines : List (List ℕ)) → 1 ≤ length (groups_from number lines)
groups_are_some number [] = omega arith
groups_are_some number (line ∷ lines) = some_group number (says line) (groups_from (number + 1) lines) (groups_are_some (number + 1) lines)

pub script_has_group : (told : Option (List File)) (script : List ℕ) (groups : List Group) → ScriptWasRead told script groups → 1 ≤ length groups
script_has_group told script groups read = subst (λ (gs : List Group). 1 ≤ length gs) (sym read.is.groups) (groups_are_some 1 (lines_of read.bytes))

-- ---- a script has no more jobs than lines

few_more : (number : ℕ) (saying : Saying) (groups : List Group) → length (jobs_of (with_line number saying groups)) ≤ length (jobs_of groups) + 1
few_more number (Asks order) [] = omega arith
few_more number (Asks order) (group ∷ groups) = omega arith
few_more number Settles groups = omega arith
few_more number Passed groups = omega arith
few_more number Wrong groups = omega arith

few_jobs : (number : ℕ) (lines : List (List ℕ)) → length (jobs_of (groups_from number lines)) ≤ length lines
few_jobs number [] = omega arith
few_jobs number (line ∷ lines) =
    let rest = few_jobs (number + 1) lines in
    let more = few_more number (says line) (groups_from (number + 1) lines) in
    omega (arith, rest, more)

pub script_few_jobs : (told : Option (List File)) (script : List ℕ) (groups : List Group) (read : ScriptWasRead told script groups) → length (jobs_of groups) ≤ length (lines_of read.bytes)
script_few_jobs told script groups read = subst (λ gs. length (jobs_of gs) ≤ length (lines_of read.bytes)) (sym read.is.groups) (few_jobs 1 (lines_of read.bytes))
