-- One more job, and one more group, of a script.
use Rattle.std.proofs.Common.{◌≡◌, ℕ, ◌+◌, List, [], ◌∷◌, ◌++◌, length, append_assoc, append-nil, refl, sym, ap, ◌∙◌, arith}
use Rattle.std.proofs.lemmas.List.Sums.{sum_by-append, sum_by-cons}
use Rattle.htss_defs.specs.declared.shape.Shape.{Shape}
use Rattle.script_text.specs.declared.script.Job.{Job}
use Rattle.script_text.specs.declared.script.Group.{Group}
use Rattle.script_text.specs.declared.script.Order.{Order}
use Rattle.script_text.specs.declared.script.Order.TheVariants.{Load, Withdraw, Search}
use Rattle.report_rules.specs.Dealing.{Dealt, caller_in_turn, dealt, dealt_from, dealt_group, loads_in, searches_in}
use Rattle.told_history.specs.LaidJobs.{loads_of, searches_of}

pub one_each : (order : Order) → loads_in order + searches_in order ≡ 1
one_each (Load file) = refl
one_each (Withdraw number) = refl
one_each (Search file budget) = refl

pub loads_push : (jobs : List Job) (job : Job) → loads_of (jobs ++ job ∷ []) ≡ loads_of jobs + loads_in job.order
loads_push jobs job = omega (arith, sum_by-append (λ (j : Job). loads_in j.order) jobs (job ∷ []), sum_by-cons (λ (j : Job). loads_in j.order) job [])

pub searches_push : (jobs : List Job) (job : Job) → searches_of (jobs ++ job ∷ []) ≡ searches_of jobs + searches_in job.order
searches_push jobs job = omega (arith, sum_by-append (λ (j : Job). searches_in j.order) jobs (job ∷ []), sum_by-cons (λ (j : Job). searches_in j.order) job [])

abbrev pub one_dealt : Shape → ℕ → ℕ → ℕ → Job → Dealt
one_dealt shape group loads searches job = record { group = group; caller = caller_in_turn shape loads searches job.order; job = job }

pub dealt_push : (shape : Shape) (group loads searches : ℕ) (jobs : List Job) (job : Job)
    → dealt_from shape group loads searches (jobs ++ job ∷ []) ≡ dealt_from shape group loads searches jobs ++ one_dealt shape group (loads + loads_of jobs) (searches + searches_of jobs) job ∷ []
dealt_push shape group loads searches [] job =
    let l : loads ≡ loads + 0 = omega arith in
    let s : searches ≡ searches + 0 = omega arith in
    ap (λ (n : ℕ). one_dealt shape group n searches job ∷ []) l ∙ ap (λ (n : ℕ). one_dealt shape group (loads + 0) n job ∷ []) s
dealt_push shape group loads searches (one ∷ jobs) job =
    let l : loads + loads_in one.order + loads_of jobs ≡ loads + loads_of (one ∷ jobs) = omega (arith, sum_by-cons (λ (j : Job). loads_in j.order) one jobs) in
    let s : searches + searches_in one.order + searches_of jobs ≡ searches + searches_of (one ∷ jobs) = omega (arith, sum_by-cons (λ (j : Job). searches_in j.order) one jobs) in
    let rest = dealt_from shape group (loads + loads_in one.order) (searches + searches_in one.order) jobs in
    ap (λ (x : List Dealt). one_dealt shape group loads searches one ∷ x)
    (dealt_push shape group (loads + loads_in one.order) (searches + searches_in one.order) jobs job
    ∙ ap (λ (n : ℕ). rest ++ one_dealt shape group n (searches + searches_in one.order + searches_of jobs) job ∷ []) l
    ∙ ap (λ (n : ℕ). rest ++ one_dealt shape group (loads + loads_of (one ∷ jobs)) n job ∷ []) s)

pub groups_push : (shape : Shape) (first : ℕ) (groups : List Group) (group : Group) → dealt shape first (groups ++ group ∷ []) ≡ dealt shape first groups ++ dealt_group shape (first + length groups) group
groups_push shape first [] group =
    let n : first ≡ first + 0 = omega arith in
    append-nil (dealt_group shape first group) ∙ ap (λ (k : ℕ). dealt_group shape k group) n
groups_push shape first (one ∷ groups) group =
    let n : first + 1 + length groups ≡ first + length (one ∷ groups) = omega arith in
    ap (λ (x : List Dealt). dealt_group shape first one ++ x) (groups_push shape (first + 1) groups group ∙ ap (λ (k : ℕ). dealt shape (first + 1) groups ++ dealt_group shape k group) n)
    ∙ sym (append_assoc (dealt_group shape first one) (dealt shape (first + 1) groups) (dealt_group shape (first + length (one ∷ groups)) group))
