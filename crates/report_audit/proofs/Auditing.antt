-- The lines of blocks, and what is found at the end.
use Rattle.std.proofs.Common.{min, ◌^◌, ◌≡◌, ◌⊎◌, inl, inr, ℕ, zero, suc, ◌+◌, ◌-◌, ◌<◌, ◌≤◌, Bool, List, [], ◌∷◌, ◌++◌, length, map, take, All, sum_by, refl, sym, ap, subst, ◌∙◌, arith}
use Rattle.std.specs.Prelude.{Option, Some, None, Contains, slice_get, slice_index_or}
use Rattle.std.specs.List.{flat_map}
use Rattle.std.proofs.lemmas.List.{length-map, map-append, take_all}
use Rattle.std.proofs.lemmas.List.Concat.{flat_map-cons}
use Rattle.std.proofs.lemmas.List.Sums.{sum_by-append, sum_by-cons}
use Rattle.std.proofs.lemmas.List.Elements.{All-nil}
use Rattle.htss_defs.specs.declared.shape.Shape.{Shape}
use Rattle.htss_defs.specs.declared.history.Event.{Event}
use Rattle.script_text.specs.declared.script.Group.{Group}
use Rattle.script_text.specs.declared.script.Job.{Job}
use Rattle.report_text.specs.declared.report.Block.{Block}
use Rattle.report_text.specs.declared.report.Block.TheVariants as block
use Rattle.report_text.specs.declared.report.LoadLine.{LoadLine}
use Rattle.report_text.specs.declared.report.SearchLine.{SearchLine}
use Rattle.report_text.specs.declared.report.SearchLine.TheVariants as search
use Rattle.report_rules.specs.Answers.{RecordAnswer, record_line, record_lines}
use Rattle.report_rules.specs.Dealing.{Dealt, caller_in_turn, dealt, dealt_from, loads_in, searches_in}
use Rattle.report_rules.specs.Faults.{IsBlockFault, IsInnerFault, IsLoadFault, IsRuleFault, IsUnnamed, Setting, block_length, line_after, names}
use Rattle.report_rules.specs.Reports.{Done, done_lines}
use Rattle.report_rules.specs.Rules.{Line}
use Rattle.told_history.specs.declared.jobs.LaidJob.{LaidJob}
use Rattle.report_audit.specs.declared.so_far.SoFar.{SoFar}
use Rattle.told_history.specs.declared.told.Told.{Told}
use Rattle.report_audit.specs.Audits.{jobs_in}
use Rattle.report_audit.specs.BlockChecks.{HasKept, IsAllKept, IsFaultAfter}
use Rattle.told_history.specs.LaidJobs.{dealt_by, job_of, searches_of}
use Rattle.report_audit.specs.SoFars.{IsFree}
use Rattle.told_history.specs.Telling.{Tells}
use Rattle.report_audit.proofs.Taking.{never_both}
use Rattle.told_history.proofs.TellEvents.{told_length}

-- ---- a fault is within its block

take_short : {X : Type 0} (n : ℕ) (xs : List X) → length (take n xs) ≤ length xs
take_short zero xs = omega arith
take_short (suc n) [] = omega arith
take_short (suc n) (x ∷ xs) = omega (arith, take_short n xs)

as_many : (place : ℕ) (answers : List RecordAnswer) → length (record_lines place answers) ≡ length answers
as_many place [] = refl
as_many place (answer ∷ answers) = ap suc (as_many (place + 1) answers)

some_lines : (here : Block) → 1 ≤ block_length here
some_lines (block.Load at file lines) = omega arith
some_lines (block.Withdraw at number answer) = omega arith
some_lines (block.Search at file (search.Hits front hits rows records)) = omega arith
some_lines (block.Search at file (search.OverBudget front budget)) = omega arith
some_lines (block.Search at file (search.Refused line code)) = omega arith

inner_within : (s : Setting) (earlier : List Line) (one : Dealt) (here : Block) (offset : ℕ) → IsInnerFault s earlier one here offset → offset < block_length here
inner_within s earlier one (block.Load at file lines) offset is =
    let many = as_many 1 is.before in
    let few = take_short (length is.before) lines in
    let same = ap length is.lines_are in
    let at = is.offset_is in
    omega (arith, many, few, same, at)
inner_within s earlier one (block.Withdraw at number answer) offset is = absurd is
inner_within s earlier one (block.Search at file (search.Refused line code)) offset is = absurd is
inner_within s earlier one (block.Search at file (search.OverBudget front budget)) offset is =
    let here = is.2 in
    omega (arith, here)
inner_within s earlier one (block.Search at file (search.Hits front hits rows records)) offset is =
    let fault = is.2 in
    let at = fault.offset_is in
    elim fault.here [
      | inl early ↦ (let less = early.0 in omega (arith, less, at))
      | inr last ↦ (let same = last.0 in omega (arith, same, at))
    ]

fault_within : (s : Setting) (earlier : List Line) (one : Option Dealt) (here : Block) (offset : ℕ) → IsBlockFault s earlier one (Some here) offset → offset < block_length here
fault_within s earlier None here offset is = omega (arith, is, some_lines here)
fault_within s earlier (Some one) here offset (inl is) =
    let zero_is = is.0 in
    omega (arith, zero_is, some_lines here)
fault_within s earlier (Some one) here offset (inr is) = inner_within s earlier one here offset is.2

no_block : (s : Setting) (earlier : List Line) (one : Option Dealt) (offset : ℕ) → IsBlockFault s earlier one None offset → offset ≡ 0
no_block s earlier None offset is = absurd is
no_block s earlier (Some one) offset is = is

sum_take : (k : ℕ) (blocks : List Block) → sum_by block_length (take k blocks) ≤ sum_by block_length blocks
sum_take zero blocks = omega arith
sum_take (suc k) [] = omega arith
sum_take (suc k) (here ∷ blocks) = omega (arith, sum_take k blocks, sum_by-cons block_length here blocks, sum_by-cons block_length here (take k blocks))

sum_at : (k : ℕ) (blocks : List Block) (here : Block) → slice_get blocks k ≡ Some here → sum_by block_length (take k blocks) + block_length here ≤ sum_by block_length blocks
sum_at k [] here at = absurd cc
sum_at zero (first ∷ blocks) here at =
    let same : first ≡ here = cc at in
    let long = ap block_length same in
    omega (arith, long, sum_by-cons block_length first blocks)
sum_at (suc k) (first ∷ blocks) here at = omega (arith, sum_at k blocks here at, sum_by-cons block_length first blocks, sum_by-cons block_length first (take k blocks))

-- so its line can be numbered where all lines can
pub line_fits : (s : Setting) (jobs : List Dealt) (blocks : List Block) (index offset : ℕ) → IsFaultAfter s jobs blocks index offset → line_after (take index blocks) + offset ≤ line_after blocks
line_fits s jobs blocks index offset is = go (slice_get blocks index) refl is.here
  where
    go : (here : Option Block) → slice_get blocks index ≡ here → IsBlockFault s (flat_map done_lines is.done) (slice_get jobs index) here offset → line_after (take index blocks) + offset ≤ line_after blocks
    go None at fault = omega (arith, sum_take index blocks, no_block s (flat_map done_lines is.done) (slice_get jobs index) offset fault)
    go (Some here) at fault = omega (arith, sum_at index blocks here at, fault_within s (flat_map done_lines is.done) (slice_get jobs index) here offset fault)

pub line_before_fits : (index : ℕ) (blocks : List Block) → line_after (take index blocks) ≤ line_after blocks
line_before_fits index blocks = omega (arith, sum_take index blocks)

pub rule_fault : (s : Setting) (jobs : List Dealt) (blocks : List Block) (index offset line : ℕ) → IsFaultAfter s jobs blocks index offset → line ≡ line_after (take index blocks) + offset → IsRuleFault s jobs blocks line
rule_fault s jobs blocks index offset line is line_is = record {
  done = is.done;
  kept = is.kept;
  offset = offset;
  line_is = line_is ∙ ap (λ (n : ℕ). line_after (take n blocks) + offset) (sym is.count_is);
  here = subst (λ (n : ℕ). IsBlockFault s (flat_map done_lines is.done) (slice_get jobs n) (slice_get blocks n) offset) (sym is.count_is) is.here;
}

pub unsaturated : (r a b : ℕ) → r ≡ min (a + b) (2 ^ 64 - 1) → a + b < 2 ^ 64 → r ≡ a + b
unsaturated r a b is less = grind (arith, is, less)

pub lines_push : (blocks : List Block) (here : Block) → line_after (blocks ++ here ∷ []) ≡ line_after blocks + block_length here
lines_push blocks here = omega (arith, sum_by-append block_length blocks (here ∷ []), sum_by-cons block_length here [])

-- ---- at the end

pub unnamed : (told : Told) (so_far : SoFar) (s : Setting) (jobs : List Dealt) (blocks : List Block) (number : ℕ) → Tells told s.history → (has : HasKept told so_far s jobs blocks (length jobs)) → length blocks ≡ length jobs
    → IsFree so_far.taken.items number → ((other : ℕ) → other < number → IsFree so_far.taken.items other → ⊥) → IsUnnamed s jobs blocks number
unnamed told so_far s jobs blocks number tells has long free before =
    let many = told_length told s.history tells in
    let all = has.long in
    let within = free.within in
    record {
      done = has.done;
      kept = has.kept;
      jobs_all = has.count_is;
      blocks_all = has.count_is ∙ sym long;
      some = free.some;
      within = omega (arith, within, all, many);
      before = λ other some less. has.lines.taken.held other some (omega (arith, less, within)) (before other less);
      here = λ holds. never_both (flat_map done_lines has.done) number (has.lines.taken.free number free) holds;
    }

pub all_kept : (told : Told) (so_far : SoFar) (s : Setting) (jobs : List Dealt) (blocks : List Block) → Tells told s.history → HasKept told so_far s jobs blocks (length jobs) → length blocks ≡ length jobs
    → ((other : ℕ) → IsFree so_far.taken.items other → ⊥) → IsAllKept s jobs blocks
all_kept told so_far s jobs blocks tells has long none =
    let many = told_length told s.history tells in
    let all = has.long in
    record {
      done = has.done;
      kept = has.kept;
      jobs_all = has.count_is;
      blocks_all = has.count_is ∙ sym long;
      named = λ number some within. has.lines.taken.held number some (omega (arith, within, all, many)) (none number);
    }

-- ---- the jobs of a script

jobs_from : (shape : Shape) (group loads searches : ℕ) (jobs : List Job) → map (λ (d : Dealt). d.job) (dealt_from shape group loads searches jobs) ≡ jobs
jobs_from shape group loads searches [] = refl
jobs_from shape group loads searches (job ∷ jobs) = ap (λ (l : List Job). job ∷ l) (jobs_from shape group (loads + loads_in job.order) (searches + searches_in job.order) jobs)

jobs_dealt : (shape : Shape) (number : ℕ) (script : List Group) → map (λ (d : Dealt). d.job) (dealt shape number script) ≡ jobs_in script
jobs_dealt shape number [] = refl
jobs_dealt shape number (group ∷ script) =
    map-append (λ (d : Dealt). d.job) (dealt_from shape number 0 0 group.jobs) (dealt shape (number + 1) script)
    ∙ ap (λ (l : List Job). l ++ map (λ (d : Dealt). d.job) (dealt shape (number + 1) script)) (jobs_from shape number 0 0 group.jobs)
    ∙ ap (λ (l : List Job). group.jobs ++ l) (jobs_dealt shape (number + 1) script)
    ∙ sym (flat_map-cons (λ (g : Group). g.jobs) group script)

jobs_laid : (shape : Shape) (jobs : List LaidJob) → map (λ (d : Dealt). d.job) (map (dealt_by shape) jobs) ≡ map job_of jobs
jobs_laid shape [] = refl
jobs_laid shape (laid ∷ jobs) = ap (λ (l : List Job). laid.job.now ∷ l) (jobs_laid shape jobs)

pub jobs_are : (shape : Shape) (jobs : List LaidJob) (script : List Group) → map (dealt_by shape) jobs ≡ dealt shape 1 script → map job_of jobs ≡ jobs_in script
jobs_are shape jobs script are = sym (jobs_laid shape jobs) ∙ ap (map (λ (d : Dealt). d.job)) are ∙ jobs_dealt shape 1 script

pub searches_are : (script : List Group) → searches_of (jobs_in script) ≡ sum_by (λ (g : Group). searches_of g.jobs) script
searches_are [] = refl
searches_are (group ∷ script) =
    ap searches_of (flat_map-cons (λ (g : Group). g.jobs) group script)
    ∙ sum_by-append (λ (j : Job). searches_in j.order) group.jobs (jobs_in script)
    ∙ ap (λ (n : ℕ). searches_of group.jobs + n) (searches_are script)
    ∙ sym (sum_by-cons (λ (g : Group). searches_of g.jobs) group script)

pub search_push : (jobs : List Job) (job : Job) → searches_of (jobs ++ job ∷ []) ≡ searches_of jobs + searches_in job.order
search_push jobs job = omega (arith, sum_by-append (λ (j : Job). searches_in j.order) jobs (job ∷ []), sum_by-cons (λ (j : Job). searches_in j.order) job [])

get_map : {X Y : Type 0} (f : X → Y) (xs : List X) (k : ℕ) (d : X) → slice_index_or (map f xs) k (f d) ≡ f (slice_index_or xs k d)
get_map f [] k d = refl
get_map f (x ∷ xs) zero d = refl
get_map f (x ∷ xs) (suc k) d = get_map f xs k d

all_back : {X Y : Type 0} (P : Y → Type 0) (f : X → Y) (xs : List X) → All P (map f xs) → All (λ x. P (f x)) xs
all_back P f xs all = λ k d within. subst P (get_map f xs k d) (all k (f d) (omega (arith, within, length-map xs f)))

pub each_job : (P : Job → Type 0) (jobs : List LaidJob) (all_jobs : List Job) → map job_of jobs ≡ all_jobs → All P all_jobs → All (λ laid. P (job_of laid)) jobs
each_job P jobs all_jobs are all = all_back P job_of jobs (subst (All P) (sym are) all)
