-- A script is read on by one line.
use Rattle.std.proofs.Common.{◌≡◌, ◌⊎◌, ℕ, zero, suc, ◌+◌, ◌-◌, ◌<◌, ◌≤◌, Bool, true, false, not, List, [], ◌∷◌, ◌++◌, length, take, drop, refl, sym, ap, subst, ◌∙◌, inl, inr, append_assoc, arith}
use Rattle.std.specs.Prelude.{Some, None, filter, nat_lt}
use Rattle.std.specs.List.{list_all}
use Rattle.std.proofs.lemmas.Bool.{cond-true, cond-false, cases_Bool}
use Rattle.std.proofs.lemmas.List.{append-nil, length-append}
use Rattle.std.proofs.lemmas.List.Elements.{filter-append}
use Rattle.std.proofs.lemmas.List.Folds.{list_all-append}
use Rattle.script_text.specs.declared.script.Job.{Job}
use Rattle.script_text.specs.declared.script.Group.{Group}
use Rattle.script_text.specs.declared.saying.Saying.{Saying}
use Rattle.script_text.specs.declared.saying.Saying.TheVariants.{Passed, Settles, Asks, Wrong}
use Rattle.script_text.specs.Grammar.{says}
use Rattle.script_text.specs.Scripts.{count_jobs, groups_from, is_job, is_sound, is_wrong, with_job, with_line, IsFirstFault, IsScriptOf}
use Rattle.script_text.specs.Reading.{Progress, progress_after, with_jobs, IsReadTo}

abbrev Lines : Type 0
Lines = List (List ℕ)

-- the line after the first n
next : (n : ℕ) (lines left : Lines) (line : List ℕ) → drop n lines ≡ line ∷ left
    → (take (suc n) lines ≡ take n lines ++ line ∷ []) × (drop (suc n) lines ≡ left) × (suc n ≤ length lines)
next zero [] left line is = absurd cc
next zero (x ∷ lines) left line is = (ap (take 1) is, ap (drop 1) is, omega arith)
next (suc n) [] left line is = absurd cc
next (suc n) (x ∷ lines) left line is = let more = next n lines left line is in (ap (λ (l : Lines). x ∷ l) more.0, more.1, omega (arith, more.2))

-- ---- jobs are counted

pub count_none : count_jobs [] ≡ 0
unfolding count_jobs
count_none = refl

count_more : (lines : Lines) (line : List ℕ) → count_jobs (lines ++ line ∷ []) ≡ count_jobs lines + count_jobs (line ∷ [])
unfolding count_jobs
count_more lines line = let f = λ (l : List ℕ). is_job (says l) in ap length (filter-append f lines (line ∷ [])) ∙ length-append (filter f lines) (filter f (line ∷ []))

count_one : (line : List ℕ) → is_job (says line) ≡ true → count_jobs (line ∷ []) ≡ 1
unfolding count_jobs
count_one line is = ap length (cond-true (is_job (says line)) (line ∷ []) [] is)

count_other : (line : List ℕ) → is_job (says line) ≡ false → count_jobs (line ∷ []) ≡ 0
unfolding count_jobs
count_other line is = ap length (cond-false (is_job (says line)) (line ∷ []) [] is)

-- ---- soundness

abbrev are_right : Lines → Bool
are_right lines = list_all (λ line. not (is_wrong (says line))) lines

pub sound_none : is_sound [] ≡ true
unfolding is_sound count_jobs
sound_none = refl

few : (lines : Lines) → is_sound lines ≡ true → (are_right lines ≡ true) × (count_jobs lines ≤ 65536)
unfolding is_sound
few lines is = (grind arith, grind arith)

made_sound : (lines : Lines) → are_right lines ≡ true → count_jobs lines ≤ 65536 → is_sound lines ≡ true
unfolding is_sound
made_sound lines right short = grind arith

made_wrong : (lines : Lines) → are_right lines ≡ false → is_sound lines ≡ false
unfolding is_sound
made_wrong lines wrong = grind arith

made_many : (lines : Lines) → 65536 < count_jobs lines → is_sound lines ≡ false
unfolding is_sound
made_many lines many = go (cases_Bool (are_right lines))
  where
    go : (are_right lines ≡ true) ⊎ (are_right lines ≡ false) → is_sound lines ≡ false
    go (inl right) = grind arith
    go (inr wrong) = grind arith

right_more : (lines : Lines) (line : List ℕ) → are_right lines ≡ true → is_wrong (says line) ≡ false → are_right (lines ++ line ∷ []) ≡ true
right_more lines line before here = list_all-append (λ l. not (is_wrong (says l))) lines (line ∷ []) ∙ rw (before, here) refl

wrong_more : (lines : Lines) (line : List ℕ) → are_right lines ≡ true → is_wrong (says line) ≡ true → are_right (lines ++ line ∷ []) ≡ false
wrong_more lines line before here = list_all-append (λ l. not (is_wrong (says l))) lines (line ∷ []) ∙ rw (before, here) refl

-- ---- groups

with_none : (groups : List Group) → with_jobs [] groups ≡ groups
with_none [] = refl
with_none (group ∷ groups) = refl

with_one_more : (jobs : List Job) (job : Job) (groups : List Group) → with_jobs jobs (with_job job groups) ≡ with_jobs (jobs ++ job ∷ []) groups
with_one_more jobs job [] = refl
with_one_more jobs job (group ∷ groups) = ap (λ (j : List Job). record { jobs = j } ∷ groups) (sym (append_assoc jobs (job ∷ []) group.jobs))

-- ---- a line more

same_Some : {X : Type 0} {x y : X} → Some x ≡ Some y → x ≡ y
same_Some e = cc

module _ (lines left : Lines) (line : List ℕ) (number : ℕ) (before : Progress) (read : IsReadTo lines number (line ∷ left) before) where
  here : (take (suc number) lines ≡ take number lines ++ line ∷ []) × (drop (suc number) lines ≡ left) × (suc number ≤ length lines)
  here = next number lines left line read.left

  ahead : number + 1 ≡ suc number
  ahead = omega arith

  taken_lines : take (number + 1) lines ≡ take number lines ++ line ∷ []
  taken_lines = ap (λ (n : ℕ). take n lines) ahead ∙ here.0

  left_lines : drop (number + 1) lines ≡ left
  left_lines = ap (λ (n : ℕ). drop n lines) ahead ∙ here.1

  known : (are_right (take number lines) ≡ true) × (count_jobs (take number lines) ≤ 65536)
  known = few (take number lines) read.sound

  counted_job : is_job (says line) ≡ true → count_jobs (take (number + 1) lines) ≡ before.count + 1
  counted_job is = ap count_jobs taken_lines ∙ count_more (take number lines) line ∙ rw (count_one line is, sym read.counted) refl

  counted_other : is_job (says line) ≡ false → count_jobs (take (number + 1) lines) ≡ before.count
  counted_other is = ap count_jobs taken_lines ∙ count_more (take number lines) line ∙ rw (count_other line is, sym read.counted) (omega arith)

  right : is_wrong (says line) ≡ false → are_right (take (number + 1) lines) ≡ true
  right is = ap are_right taken_lines ∙ right_more (take number lines) line known.0 is

  read_on : (after : Progress) → is_wrong (says line) ≡ false → after.count ≤ 65536 → after.count ≡ count_jobs (take (number + 1) lines)
      → groups_from 1 lines ≡ after.ended ++ with_jobs after.jobs (groups_from (number + 1 + 1) left) → IsReadTo lines (number + 1) left after
  read_on after is short counts groups = record {
    left = left_lines;
    within = omega (arith, here.2);
    sound = made_sound (take (number + 1) lines) (right is) (omega (arith, counts, short));
    counted = counts;
    groups = groups;
  }

  short_before : before.count ≤ 65536
  short_before = omega (arith, known.1, read.counted)

  abbrev rest_groups : List Group
  rest_groups = groups_from (number + 1 + 1) left

  go_taken : (said : Saying) → says line ≡ said → (after : Progress) → progress_after (number + 1) said before ≡ Some after → IsReadTo lines (number + 1) left after
  go_taken Passed is after e = subst (IsReadTo lines (number + 1) left) (same_Some e)
      (read_on before (ap is_wrong is) short_before (sym (counted_other (ap is_job is)))
      (read.groups ∙ ap (λ (s : Saying). before.ended ++ with_jobs before.jobs (with_line (number + 1) s rest_groups)) is))
  go_taken Wrong is after e = absurd cc
  go_taken Settles is after e = subst (IsReadTo lines (number + 1) left) (same_Some e)
      (read_on (record { count = before.count; ended = before.ended ++ record { jobs = before.jobs } ∷ []; jobs = [] })
      (ap is_wrong is) short_before (sym (counted_other (ap is_job is)))
      (read.groups ∙ ap (λ (s : Saying). before.ended ++ with_jobs before.jobs (with_line (number + 1) s rest_groups)) is
      ∙ ap (λ (j : List Job). before.ended ++ record { jobs = j } ∷ rest_groups) (append-nil before.jobs)
      ∙ ap (λ (g : List Group). before.ended ++ record { jobs = before.jobs } ∷ g) (sym (with_none rest_groups))
      ∙ sym (append_assoc before.ended (record { jobs = before.jobs } ∷ []) (with_jobs [] rest_groups))))
  go_taken (Asks order) is after e = go (cases_Bool (nat_lt before.count 65536))
    where
      job : Job
      job = record { line = number + 1; order = order }

      more : Progress
      more = record { count = before.count + 1; ended = before.ended; jobs = before.jobs ++ job ∷ [] }

      go : (nat_lt before.count 65536 ≡ true) ⊎ (nat_lt before.count 65536 ≡ false) → IsReadTo lines (number + 1) left after
      go (inl less) = subst (IsReadTo lines (number + 1) left) (same_Some (sym (cond-true (nat_lt before.count 65536) (Some more) None less) ∙ e))
          (read_on more (ap is_wrong is) (grind arith) (sym (counted_job (ap is_job is)))
          (read.groups ∙ ap (λ (s : Saying). before.ended ++ with_jobs before.jobs (with_line (number + 1) s rest_groups)) is
          ∙ ap (λ (g : List Group). before.ended ++ g) (with_one_more before.jobs job rest_groups)))
      go (inr full) = absurd (grind arith)

  pub taken : (after : Progress) → progress_after (number + 1) (says line) before ≡ Some after → IsReadTo lines (number + 1) left after
  taken after e = go_taken (says line) refl after e

  at_fault : is_sound (take (number + 1) lines) ≡ false → IsFirstFault lines (number + 1)
  at_fault faulty =
      let k : number + 1 - 1 ≡ number = omega arith in
      record {
        within = (omega arith, omega (arith, here.2));
        sound = ap (λ (n : ℕ). is_sound (take n lines)) k ∙ read.sound;
        faulty = faulty;
      }

  go_fault : (said : Saying) → says line ≡ said → progress_after (number + 1) said before ≡ None → IsFirstFault lines (number + 1)
  go_fault Passed is e = absurd cc
  go_fault Settles is e = absurd cc
  go_fault Wrong is e = at_fault (made_wrong (take (number + 1) lines) (ap are_right taken_lines ∙ wrong_more (take number lines) line known.0 (ap is_wrong is)))
  go_fault (Asks order) is e = go (cases_Bool (nat_lt before.count 65536))
    where
      go : (nat_lt before.count 65536 ≡ true) ⊎ (nat_lt before.count 65536 ≡ false) → IsFirstFault lines (number + 1)
      go (inl less) = absurd (grind arith)
      go (inr full) = at_fault (made_many (take (number + 1) lines) (let c = counted_job (ap is_job is) in grind arith))

  pub fault : progress_after (number + 1) (says line) before ≡ None → IsFirstFault lines (number + 1)
  fault e = go_fault (says line) refl e

all_taken : (n : ℕ) (lines : Lines) → drop n lines ≡ [] → take n lines ≡ lines
all_taken zero [] none = refl
all_taken zero (x ∷ lines) none = absurd cc
all_taken (suc n) [] none = refl
all_taken (suc n) (x ∷ lines) none = ap (λ (l : Lines). x ∷ l) (all_taken n lines none)

-- no line is read yet
pub started : (lines : Lines) → IsReadTo lines 0 lines (record { count = 0; ended = []; jobs = [] })
started lines = record { left = refl; within = omega arith; sound = sound_none; counted = sym count_none; groups = sym (with_none (groups_from 1 lines)) }

-- all lines are read
pub whole : (lines : Lines) (number : ℕ) (last : Progress) → IsReadTo lines number [] last → IsScriptOf lines (record { groups = last.ended ++ record { jobs = last.jobs } ∷ [] })
whole lines number last read = record {
  sound = ap is_sound (sym (all_taken number lines read.left)) ∙ read.sound;
  groups = sym (read.groups ∙ ap (λ (j : List Job). last.ended ++ record { jobs = j } ∷ []) (append-nil last.jobs));
}
