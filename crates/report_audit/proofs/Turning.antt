-- One more block.
use Rattle.std.proofs.Common.{◌≡◌, ◌⊎◌, inl, inr, ℕ, zero, suc, ◌+◌, ◌<◌, ◌≤◌, List, [], ◌∷◌, ◌++◌, append-nil, length, map, take, refl, sym, ap, subst, ◌∙◌, arith}
use Rattle.std.specs.Prelude.{Option, Some, None, option_map, slice_get, slice_index_or}
use Rattle.std.specs.List.{AllZip, flat_map}
use Rattle.std.proofs.lemmas.Grind.{flat_map-append}
use Rattle.std.proofs.lemmas.List.{length-map, length_push}
use Rattle.std.proofs.lemmas.List.Concat.{flat_map-cons}
use Rattle.std.proofs.lemmas.List.Elements.{All-nil}
use Rattle.std.proofs.lemmas.Option.{slice_get-map, slice_get_past, slice_get_read, slice_get-get_or}
use Rattle.htss_defs.specs.declared.shape.Shape.{Shape}
use Rattle.script_text.specs.declared.script.Group.{Group}
use Rattle.script_text.specs.declared.script.Job.{Job}
use Rattle.script_text.specs.FilesByLine.{bytes_at}
use Rattle.report_text.specs.declared.report.Block.{Block}
use Rattle.report_rules.specs.Dealing.{Dealt, caller_in_turn, dealt, dealt_from, loads_in, searches_in}
use Rattle.report_rules.specs.Faults.{AreKept, IsBlockFault, Setting}
use Rattle.report_rules.specs.Reports.{Done, IsByItsFile, done_lines}
use Rattle.report_rules.specs.Rules.{Line}
use Rattle.report_rules.proofs.Pushed.{kept_more}
use Rattle.told_history.specs.declared.jobs.LaidJob.{LaidJob}
use Rattle.told_history.specs.declared.reads.JobRead.{JobRead}
use Rattle.report_audit.specs.declared.so_far.SoFar.{SoFar}
use Rattle.report_audit.specs.declared.tally.Caller as code
use Rattle.told_history.specs.declared.told.Told.{Told}
use Rattle.report_audit.specs.declared.turns.Turns.{Turns}
use Rattle.report_audit.specs.BlockChecks.{AreTurnsOf, HasKept, IsFaultAfter, IsKeptBlock, IsTurnOf}
use Rattle.report_audit.specs.Callers as callers
use Rattle.report_audit.specs.LineChecks.{IsNextOf}
use Rattle.told_history.specs.LaidJobs.{dealt_by}
use Rattle.told_history.specs.Reads.{IsReadOf}
use Rattle.report_audit.specs.SoFars.{IsSoFar}

-- ---- the groups of the jobs rise

Rises : ℕ → List Dealt → Type 0
Rises group [] = Unit {0}
Rises group (one ∷ jobs) = (group ≤ one.group) × Rises one.group jobs

rises_later : (group later : ℕ) (jobs : List Dealt) → group ≤ later → Rises later jobs → Rises group jobs
unfolding Rises
rises_later group later [] less is = tt
rises_later group later (one ∷ jobs) less is =
    let first = is.0 in
    (omega (arith, less, first), is.1)

rises_from : (shape : Shape) (group loads searches : ℕ) (jobs : List Job) (rest : List Dealt) → Rises group rest → Rises group (dealt_from shape group loads searches jobs ++ rest)
unfolding Rises
rises_from shape group loads searches [] rest is = is
rises_from shape group loads searches (job ∷ jobs) rest is = (omega arith, rises_from shape group (loads + loads_in job.order) (searches + searches_in job.order) jobs rest is)

rises : (shape : Shape) (number : ℕ) (script : List Group) → Rises number (dealt shape number script)
unfolding Rises
rises shape number [] = tt
rises shape number (group ∷ script) =
    rises_from shape number 0 0 group.jobs (dealt shape (number + 1) script) (rises_later number (number + 1) (dealt shape (number + 1) script) (omega arith) (rises shape (number + 1) script))

rises_at : (group : ℕ) (jobs : List Dealt) (k : ℕ) (one : Dealt) → Rises group jobs → slice_get jobs k ≡ Some one → group ≤ one.group
unfolding Rises
rises_at group [] k one is at = absurd cc
rises_at group (first ∷ jobs) zero one is at =
    let same : first ≡ one = cc at in
    subst (λ (d : Dealt). group ≤ d.group) same is.0
rises_at group (first ∷ jobs) (suc k) one is at =
    let later = rises_at first.group jobs k one is.1 at in
    let low = is.0 in
    omega (arith, later, low)

rises_next : (group : ℕ) (jobs : List Dealt) (k : ℕ) (one other : Dealt) → Rises group jobs → slice_get jobs k ≡ Some one → slice_get jobs (k + 1) ≡ Some other → one.group ≤ other.group
unfolding Rises
rises_next group [] k one other is at next = absurd cc
rises_next group (first ∷ jobs) zero one other is at next =
    let same : first ≡ one = cc at in
    subst (λ (d : Dealt). d.group ≤ other.group) same (rises_at first.group jobs 0 other is.1 next)
rises_next group (first ∷ jobs) (suc k) one other is at next = rises_next first.group jobs k one other is.1 at (after next)
  where
    after : slice_get (first ∷ jobs) (suc k + 1) ≡ Some other → slice_get jobs (k + 1) ≡ Some other
    after next =
        let e : suc k + 1 ≡ suc (k + 1) = omega arith in
        ap (λ (n : ℕ). slice_get (first ∷ jobs) n) (sym e) ∙ next

pub first_group : (shape : Shape) (script : List Group) (k : ℕ) (one : Dealt) → slice_get (dealt shape 1 script) k ≡ Some one → 1 ≤ one.group
first_group shape script k one at = rises_at 1 (dealt shape 1 script) k one (rises shape 1 script) at

next_group : (shape : Shape) (script : List Group) (k : ℕ) (one other : Dealt) → slice_get (dealt shape 1 script) k ≡ Some one → slice_get (dealt shape 1 script) (k + 1) ≡ Some other → one.group ≤ other.group
next_group shape script k one other at next = rises_next 1 (dealt shape 1 script) k one other (rises shape 1 script) at next

-- ---- the job at an index

pub count_dealt : (told : Told) (turns : Turns) (script : List Group) (s : Setting) → AreTurnsOf told turns script s → length (dealt s.shape 1 script) ≡ length turns.jobs.now
count_dealt told turns script s are = ap length (sym are.jobs_are) ∙ length-map turns.jobs.now (dealt_by s.shape)

pub job_at : (told : Told) (turns : Turns) (script : List Group) (s : Setting) (index : ℕ) (laid : LaidJob) → AreTurnsOf told turns script s → slice_get turns.jobs.now index ≡ Some laid
    → slice_get (dealt s.shape 1 script) index ≡ Some (dealt_by s.shape laid)
job_at told turns script s index laid are at =
    ap (λ (l : List Dealt). slice_get l index) (sym are.jobs_are) ∙ slice_get-map (dealt_by s.shape) turns.jobs.now index ∙ ap (option_map (dealt_by s.shape)) at

zip_at : {X Y : Type 0} (R : X → Y → Type 0) (xs : List X) (ys : List Y) (k : ℕ) (x : X) (y : Y) → AllZip R xs ys → slice_get xs k ≡ Some x → slice_get ys k ≡ Some y → R x y
zip_at R [] ys k x y all left right = absurd cc
zip_at R (first ∷ xs) [] k x y all left right = absurd cc
zip_at {X = X} {Y = Y} R (first ∷ xs) (other ∷ ys) zero x y all left right =
    let a : first ≡ x = cc left in
    let b : other ≡ y = cc right in
    subst (λ (z : Y). R x z) b (subst (λ (z : X). R z other) a all.0)
zip_at R (first ∷ xs) (other ∷ ys) (suc k) x y all left right = zip_at R xs ys k x y all.1 left right

pub zip_length : {X Y : Type 0} (R : X → Y → Type 0) (xs : List X) (ys : List Y) → AllZip R xs ys → length ys ≡ length xs
zip_length R [] [] all = refl
zip_length R [] (y ∷ ys) all = absurd all
zip_length R (x ∷ xs) [] all = absurd all
zip_length R (x ∷ xs) (y ∷ ys) all = ap suc (zip_length R xs ys all.1)

-- what the job at an index is checked by
pub turn_at : (told : Told) (turns : Turns) (script : List Group) (s : Setting) (index : ℕ) (laid : LaidJob) (read : JobRead) (old new : SoFar) (caller : code.Caller) (blocks : List Block) → AreTurnsOf told turns script s
    → slice_get turns.jobs.now index ≡ Some laid → slice_get turns.reads.now index ≡ Some read → (has : HasKept told old s (dealt s.shape 1 script) blocks index)
    → ((lines : List Line) → IsSoFar lines old → IsSoFar lines new) → (old.tally.group ≤ laid.group → new.tally.group ≡ laid.group) → length new.taken.items ≡ length old.taken.items
    → callers.caller_of caller ≡ caller_in_turn turns.shape laid.loads laid.searches laid.job.now.order
    → IsTurnOf told new caller read s (flat_map done_lines has.done) (dealt_by s.shape laid)
turn_at told turns script s index laid read old new caller blocks are at read_at has lines group long caller_is = record {
  read_is = zip_at (IsReadOf s.files) turns.jobs.now turns.reads.now index laid read are.reads_are at read_at;
  next = record {
    events_are = are.events_are;
    tells = are.tells;
    lines = lines (flat_map done_lines has.done) has.lines;
    long = long ∙ has.long;
    caller_is = ap (λ (k : Shape). caller_in_turn k laid.loads laid.searches laid.job.now.order) are.shape_is ∙ sym caller_is;
    group_is = sym (group (has.group_is (dealt_by s.shape laid) (job_at told turns script s index laid are at)));
  };
}

-- ---- the block at an index is kept, or at fault

whole_lines : (done : List Done) (one : Done) → flat_map done_lines (done ++ one ∷ []) ≡ flat_map done_lines done ++ done_lines one
whole_lines done one = flat_map-append done_lines done (one ∷ []) ∙ ap (λ (l : List Line). flat_map done_lines done ++ l) (flat_map-cons done_lines one [] ∙ append-nil (done_lines one))

pub kept_at : (told : Told) (turns : Turns) (script : List Group) (s : Setting) (index : ℕ) (laid : LaidJob) (old new : SoFar) (blocks : List Block) (here : Block) → AreTurnsOf told turns script s
    → slice_get turns.jobs.now index ≡ Some laid → slice_get blocks index ≡ Some here → (has : HasKept told old s (dealt s.shape 1 script) blocks index)
    → IsKeptBlock told new s (flat_map done_lines has.done) (dealt_by s.shape laid) here → HasKept told new s (dealt s.shape 1 script) blocks (index + 1)
kept_at told turns script s index laid old new blocks here are at block_at has is =
    let one : Done = record { dealt = dealt_by s.shape laid; answer = is.answer } in
    let dealt_at = job_at told turns script s index laid are at in
    record {
      done = has.done ++ one ∷ [];
      count_is = length_push has.done one ∙ ap (λ (n : ℕ). n + 1) has.count_is;
      kept = kept_more s (dealt s.shape 1 script) blocks has.done one has.kept
          (ap (slice_get (dealt s.shape 1 script)) has.count_is ∙ dealt_at) (ap (slice_get blocks) has.count_is ∙ block_at ∙ ap Some is.block_is) is.by_file is.rules;
      lines = subst (λ (l : List Line). IsSoFar l new) (sym (whole_lines has.done one)) is.lines;
      long = is.long;
      group_is = λ other other_at.
          let later = next_group s.shape script index (dealt_by s.shape laid) other dealt_at other_at in
          let same = is.group_is in
          omega (arith, later, same);
    }

pub fault_at : (told : Told) (turns : Turns) (script : List Group) (s : Setting) (index offset : ℕ) (laid : LaidJob) (so_far : SoFar) (blocks : List Block) (here : Block) → AreTurnsOf told turns script s
    → slice_get turns.jobs.now index ≡ Some laid → slice_get blocks index ≡ Some here → (has : HasKept told so_far s (dealt s.shape 1 script) blocks index)
    → IsBlockFault s (flat_map done_lines has.done) (Some (dealt_by s.shape laid)) (Some here) offset → IsFaultAfter s (dealt s.shape 1 script) blocks index offset
fault_at told turns script s index offset laid so_far blocks here are at block_at has is = record {
  done = has.done;
  count_is = has.count_is;
  kept = has.kept;
  here = subst (λ (o : Option Block). IsBlockFault s (flat_map done_lines has.done) (slice_get (dealt s.shape 1 script) index) o offset) (sym block_at)
      (subst (λ (o : Option Dealt). IsBlockFault s (flat_map done_lines has.done) o (Some here) offset) (sym (job_at told turns script s index laid are at)) is);
}

some_at : {X : Type 0} (xs : List X) (k : ℕ) → k < length xs → (x : X) × (slice_get xs k ≡ Some x)
some_at [] k less = absurd (omega arith)
some_at (x ∷ xs) zero less = (x, refl)
some_at (x ∷ xs) (suc k) less = some_at xs k (omega (arith, less))

-- a block too many, and no block
pub job_missing : (told : Told) (turns : Turns) (script : List Group) (s : Setting) (index : ℕ) (so_far : SoFar) (blocks : List Block) → AreTurnsOf told turns script s → length turns.jobs.now ≤ index → index < length blocks
    → HasKept told so_far s (dealt s.shape 1 script) blocks index → IsFaultAfter s (dealt s.shape 1 script) blocks index 0
job_missing told turns script s index so_far blocks are past less has =
    let (here, at) = some_at blocks index less in
    let long = count_dealt told turns script s are in
    let none : slice_get (dealt s.shape 1 script) index ≡ None = slice_get_past (dealt s.shape 1 script) index (omega (arith, past, long)) in
    record {
      done = has.done;
      count_is = has.count_is;
      kept = has.kept;
      here = subst (λ (o : Option Block). IsBlockFault s (flat_map done_lines has.done) (slice_get (dealt s.shape 1 script) index) o 0) (sym at)
          (subst (λ (o : Option Dealt). IsBlockFault s (flat_map done_lines has.done) o (Some here) 0) (sym none) refl);
    }

pub block_missing : (told : Told) (turns : Turns) (script : List Group) (s : Setting) (index : ℕ) (so_far : SoFar) (blocks : List Block) → AreTurnsOf told turns script s → index < length turns.jobs.now → length blocks ≤ index
    → HasKept told so_far s (dealt s.shape 1 script) blocks index → IsFaultAfter s (dealt s.shape 1 script) blocks index 0
block_missing told turns script s index so_far blocks are less past has =
    let (laid, at) = some_at turns.jobs.now index less in
    record {
      done = has.done;
      count_is = has.count_is;
      kept = has.kept;
      here = subst (λ (o : Option Block). IsBlockFault s (flat_map done_lines has.done) (slice_get (dealt s.shape 1 script) index) o 0) (sym (slice_get_past blocks index past))
          (subst (λ (o : Option Dealt). IsBlockFault s (flat_map done_lines has.done) o None 0) (sym (job_at told turns script s index laid are at)) refl);
    }

pub kept_none : (told : Told) (so_far : SoFar) (script : List Group) (s : Setting) (blocks : List Block) → IsSoFar [] so_far → so_far.tally.group ≡ 1 → length so_far.taken.items ≡ length told.lines.now
    → HasKept told so_far s (dealt s.shape 1 script) blocks 0
kept_none told so_far script s blocks lines group long = record {
  done = [];
  count_is = refl;
  kept = record {
    of_jobs = refl;
    by_files = All-nil (IsByItsFile s.files s.budget);
    blocks_are = refl;
    rules = λ earlier later line same. absurd (nothing earlier line later same);
  };
  lines = lines;
  long = long;
  group_is = λ one at.
      let some = first_group s.shape script 0 one at in
      omega (arith, some, group);
}
  where
    nothing : (first : List Line) (line : Line) (rest : List Line) → [] ≡ first ++ line ∷ rest → ⊥
    nothing [] line rest same = absurd cc
    nothing (one ∷ first) line rest same = absurd cc
