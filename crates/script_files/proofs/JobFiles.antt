-- The files of jobs, read one after the other.
use Rattle.std.proofs.Common.{◌≡◌, ℕ, suc, ◌+◌, ◌<◌, ◌≤◌, List, [], ◌∷◌, ◌++◌, length, take, drop, append_assoc, refl, sym, ap, subst, ◌∙◌, eqb-true, eq-eqb, ne_eqb, arith}
use Rattle.std.specs.Prelude.{Option, None, Some, All, Contains, Bool, true, false, ◌==◌, if◌then◌else◌, slice_index_or}
use Rattle.std.proofs.lemmas.List.{append-nil, map-append, take-append-drop}
use Rattle.std.proofs.lemmas.Grind.{flat_map-append}
use Rattle.std.proofs.Math.Seq.{drop-cons, take-suc}
use Rattle.std.proofs.lemmas.List.Elements.{All-append, All-cons, All-nil, Contains-append_left, Contains-append_right}
use Rattle.outside.specs.Files.{File, WasRead, file_limit}
use Rattle.script_text.specs.declared.script.Job.{Job}
use Rattle.script_text.specs.declared.script.Group.{Group}
use Rattle.script_text.specs.FilesByLine.{bytes_at}
use Rattle.command_ends.specs.Outcomes.{Why}
use Rattle.command_ends.specs.RunText.{AreFilesOf, CanBeRead, HasItsFile, IsFileOf, file_named, files_named, jobs_of}
use Rattle.command_ends.specs.Ends.{ShelfGoesOn, ShelfSeen}
use Rattle.command_ends.specs.Stops.{IsStopOfFile}
use Rattle.script_files.specs.JobFiles.{AreOnlyFor, AreWithin, HaveFiles, IsAfter, StopsAmong, lines_of_jobs}
use Rattle.command_ends.proofs.Causes.{IsStopOfFile-earlier}

-- the file of another line is put beside those of these jobs
pub record IsPut (old new : List (ℕ × List ℕ)) (line : ℕ) (bytes : List ℕ) : Type 0 where
  pub at : (asked : ℕ) → bytes_at new asked ≡ (if asked == line then Some bytes else bytes_at old asked)

one_name : (P : List ℕ → Type 0) (names : List (List ℕ)) (name : List ℕ) → names ≡ name ∷ [] → P name → All P names
one_name P names name is holds = subst (All P) (sym is) (All-cons P name [] holds (All-nil P))

if_other : (asked line : ℕ) (bytes : List ℕ) (old : Option (List ℕ)) → asked < line → (if asked == line then Some bytes else old) ≡ old
if_other asked line bytes old less = ap (λ b. if b then Some bytes else old) (ne_eqb asked line (λ same. omega arith))

if_same : (line : ℕ) (bytes : List ℕ) (old : Option (List ℕ)) → (if line == line then Some bytes else old) ≡ Some bytes
if_same line bytes old = ap (λ b. if b then Some bytes else old) (eq-eqb line line refl)

kept_files : (told : Option (List File)) (old new : List (ℕ × List ℕ)) (line : ℕ) (bytes : List ℕ) → IsPut old new line bytes → (jobs : List Job) → IsAfter jobs line → AreFilesOf told old jobs → AreFilesOf told new jobs
kept_files told old new line bytes put jobs after are =
    λ k d lt m e lm.
    let job = slice_index_or jobs k d in
    let was = are k d lt m e lm in
    (was.0, put.at job.line ∙ if_other job.line line bytes (bytes_at old job.line) (after k d lt) ∙ was.1, was.2)

last_line : (jobs : List Job) (job : Job) → lines_of_jobs (jobs ++ job ∷ []) ≡ lines_of_jobs jobs ++ job.line ∷ []
last_line jobs job = map-append (λ (j : Job). j.line) jobs (job ∷ [])

only_case : (old : List (ℕ × List ℕ)) (lines : List ℕ) (last line : ℕ) (bytes found : List ℕ) (same : Bool) → (line == last) ≡ same → ((at : List ℕ) → bytes_at old line ≡ Some at → Contains lines line) → (if same then Some bytes else bytes_at old line) ≡ Some found → Contains (lines ++ last ∷ []) line
only_case old lines last line bytes found true same only at = Contains-append_right lines (last ∷ []) line (0, omega arith, sym (eqb-true line last same))
only_case old lines last line bytes found false same only at = Contains-append_left lines (last ∷ []) line (only found at)

only_more : (old new : List (ℕ × List ℕ)) (jobs : List Job) (job : Job) (bytes : List ℕ) → IsPut old new job.line bytes → AreOnlyFor old jobs → AreOnlyFor new (jobs ++ job ∷ [])
only_more old new jobs job bytes put only =
    λ line found at.
    subst (λ lines. Contains lines line) (sym (last_line jobs job))
    (only_case old (lines_of_jobs jobs) job.line line bytes found (line == job.line) refl (λ some is. only line some is) (sym (put.at line) ∙ at))

within_case : (own : List ℕ) (old : Option (List ℕ)) (found : List ℕ) (same : Bool) → length own ≤ file_limit → ((at : List ℕ) → old ≡ Some at → length at ≤ file_limit) → (if same then Some own else old) ≡ Some found → length found ≤ file_limit
within_case own old found true few within at = let here : own ≡ found = cc at in subst (λ (b : List ℕ). length b ≤ file_limit) here few
within_case own old found false few within at = within found at

within_more : (old new : List (ℕ × List ℕ)) (line : ℕ) (bytes : List ℕ) → IsPut old new line bytes → length bytes ≤ file_limit → AreWithin old → AreWithin new
within_more old new line bytes put few within = λ asked found at. within_case bytes (bytes_at old asked) found (asked == line) few (within asked) (sym (put.at asked) ∙ at)

-- the file of one more job was read and put by its line
pub have_more : (told : Option (List File)) (old new : List (ℕ × List ℕ)) (jobs : List Job) (job : Job) (name bytes : List ℕ) → file_named job.order ≡ name ∷ [] → WasRead told name bytes → IsPut old new job.line bytes → IsAfter jobs job.line → HaveFiles told old jobs → HaveFiles told new (jobs ++ job ∷ [])
have_more told old new jobs job name bytes named read put after have = record {
  are = All-append (HasItsFile told new) jobs (job ∷ []) (kept_files told old new job.line bytes put jobs after have.are)
      (All-cons (HasItsFile told new) job [] (one_name (IsFileOf told new job.line) _ name named (bytes, put.at job.line ∙ if_same job.line bytes (bytes_at old job.line), read)) (All-nil (HasItsFile told new)));
  only = only_more old new jobs job bytes put have.only;
  within = within_more old new job.line bytes put read.within have.within;
}

-- the next job names no file
pub have_none : (told : Option (List File)) (files : List (ℕ × List ℕ)) (jobs : List Job) (job : Job) → file_named job.order ≡ [] → HaveFiles told files jobs → HaveFiles told files (jobs ++ job ∷ [])
have_none told files jobs job named have = record {
  are = All-append (HasItsFile told files) jobs (job ∷ []) have.are
      (All-cons (HasItsFile told files) job [] (subst (All (IsFileOf told files job.line)) (sym named) (All-nil (IsFileOf told files job.line))) (All-nil (HasItsFile told files)));
  only = λ line bytes at. subst (λ lines. Contains lines line) (sym (last_line jobs job)) (Contains-append_left (lines_of_jobs jobs) (job.line ∷ []) line (have.only line bytes at));
  within = have.within;
}

-- the file of a single job could not be read
pub stops_at_one : (before now : ShelfSeen) (job : Job) (name : List ℕ) (why : Why) → file_named job.order ≡ name ∷ [] → IsStopOfFile before now name why → StopsAmong before now (job ∷ []) why
stops_at_one before now job name why named stop = record {
  earlier = [];
  name = name;
  later = [];
  named = ap (λ names. names ++ []) named;
  were_read = All-nil (CanBeRead before.told);
  stop = stop;
}

-- ---- the jobs of a slice, one after the other

pub split_at : {A : Type 0} (xs : List A) (k : ℕ) (d : A) → k < length xs → xs ≡ take k xs ++ slice_index_or xs k d ∷ drop (suc k) xs
split_at xs k d lt = sym (take-append-drop k xs) ∙ ap (λ rest. take k xs ++ rest) (drop-cons xs k d lt)

named_around : (jobs : List Job) (k : ℕ) (d : Job) → k < length jobs → files_named jobs ≡ files_named (take k jobs) ++ (file_named (slice_index_or jobs k d).order ++ files_named (drop (suc k) jobs))
named_around jobs k d lt = ap files_named (split_at jobs k d lt) ∙ flat_map-append (λ (job : Job). file_named job.order) (take k jobs) (slice_index_or jobs k d ∷ drop (suc k) jobs)

pub take_next : {A : Type 0} (xs : List A) (k : ℕ) (x : A) → k < length xs → x ≡ slice_index_or xs k x → take (k + 1) xs ≡ take k xs ++ x ∷ []
take_next xs k x lt is =
    let one : k + 1 ≡ suc k = omega arith in
    ap (λ n. take n xs) one ∙ take-suc xs k x lt ∙ ap (λ y. take k xs ++ y ∷ []) (sym is)

one_named : (job : Job) → files_named (job ∷ []) ≡ file_named job.order
one_named job = append-nil (file_named job.order)

-- a file of a later job could not be read
pub stops_among : (before middle now : ShelfSeen) (jobs : List Job) (k : ℕ) (job : Job) (why : Why) → k < length jobs → job ≡ slice_index_or jobs k job → ShelfGoesOn before middle → All (CanBeRead before.told) (files_named (take k jobs)) → StopsAmong middle now (job ∷ []) why → StopsAmong before now jobs why
stops_among before middle now jobs k job why lt is on were_read stops = record {
  earlier = files_named (take k jobs) ++ stops.earlier;
  name = stops.name;
  later = stops.later ++ files_named (drop (suc k) jobs);
  named = named_around jobs k job lt
      ∙ ap (λ named. files_named (take k jobs) ++ (named ++ files_named (drop (suc k) jobs)))
      (ap (λ (j : Job). file_named j.order) (sym is) ∙ sym (one_named job) ∙ stops.named)
      ∙ ap (λ rest. files_named (take k jobs) ++ rest) (append_assoc stops.earlier (stops.name ∷ stops.later) (files_named (drop (suc k) jobs)))
      ∙ sym (append_assoc (files_named (take k jobs)) stops.earlier (stops.name ∷ stops.later ++ files_named (drop (suc k) jobs)));
  were_read = All-append (CanBeRead before.told) (files_named (take k jobs)) stops.earlier were_read
      (subst (λ told. All (CanBeRead told) stops.earlier) on.told stops.were_read);
  stop = IsStopOfFile-earlier before middle now stops.name why on stops.stop;
}

-- one more job's file was read
pub were_read_more : (told : Option (List File)) (jobs : List Job) (k : ℕ) (job : Job) → k < length jobs → job ≡ slice_index_or jobs k job → All (CanBeRead told) (files_named (take k jobs)) → All (CanBeRead told) (file_named job.order) → All (CanBeRead told) (files_named (take (k + 1) jobs))
were_read_more told jobs k job lt is were_read read =
    subst (All (CanBeRead told))
    (sym (ap files_named (take_next jobs k job lt is) ∙ flat_map-append (λ (one : Job). file_named one.order) (take k jobs) (job ∷ [])
    ∙ ap (λ named. files_named (take k jobs) ++ named) (one_named job)))
    (All-append (CanBeRead told) (files_named (take k jobs)) (file_named job.order) were_read read)

-- the files of one more job stand for it
pub have_next : (told : Option (List File)) (files : List (ℕ × List ℕ)) (before jobs : List Job) (k : ℕ) (job : Job) → k < length jobs → job ≡ slice_index_or jobs k job → HaveFiles told files ((before ++ take k jobs) ++ job ∷ []) → HaveFiles told files (before ++ take (k + 1) jobs)
have_next told files before jobs k job lt is have =
    subst (HaveFiles told files) (append_assoc before (take k jobs) (job ∷ []) ∙ ap (λ l. before ++ l) (sym (take_next jobs k job lt is))) have

-- no file was read yet
pub no_files : (told : Option (List File)) (files : List (ℕ × List ℕ)) → files ≡ [] → HaveFiles told files []
no_files told files none = subst (λ (l : List (ℕ × List ℕ)). HaveFiles told l []) (sym none) (record {
  are = All-nil (HasItsFile told []);
  only = λ line bytes at. absurd (nothing bytes at);
  within = λ line bytes at. absurd (nothing bytes at);
})
  where
    nothing : (bytes : List ℕ) → None ≡ Some bytes → ⊥
    nothing bytes at = absurd cc

-- ---- the jobs of groups, one after the other

-- the jobs of the groups before this one, its own, and those of the groups after it
pub groups_around : (groups : List Group) (k : ℕ) (group : Group) → k < length groups → group ≡ slice_index_or groups k group
    → jobs_of groups ≡ (jobs_of (take k groups) ++ group.jobs) ++ jobs_of (drop (suc k) groups)
groups_around groups k group lt is =
    ap jobs_of (split_at groups k group lt) ∙ flat_map-append (λ (g : Group). g.jobs) (take k groups) (slice_index_or groups k group ∷ drop (suc k) groups)
    ∙ ap (λ (g : Group). jobs_of (take k groups) ++ (g.jobs ++ jobs_of (drop (suc k) groups))) (sym is)
    ∙ sym (append_assoc (jobs_of (take k groups)) group.jobs (jobs_of (drop (suc k) groups)))

-- the jobs of one more group
pub groups_next : (groups : List Group) (k : ℕ) (group : Group) → k < length groups → group ≡ slice_index_or groups k group → jobs_of (take (k + 1) groups) ≡ jobs_of (take k groups) ++ group.jobs
groups_next groups k group lt is =
    ap jobs_of (take_next groups k group lt is) ∙ flat_map-append (λ (g : Group). g.jobs) (take k groups) (group ∷ []) ∙ ap (λ l. jobs_of (take k groups) ++ l) (append-nil group.jobs)

named_parts : (front jobs back : List Job) → files_named ((front ++ jobs) ++ back) ≡ (files_named front ++ files_named jobs) ++ files_named back
named_parts front jobs back =
    flat_map-append (λ (job : Job). file_named job.order) (front ++ jobs) back
    ∙ ap (λ l. l ++ files_named back) (flat_map-append (λ (job : Job). file_named job.order) front jobs)

-- a file of later jobs could not be read
pub stops_later : (before middle now : ShelfSeen) (front jobs back : List Job) (why : Why) → ShelfGoesOn before middle → All (CanBeRead before.told) (files_named front) → StopsAmong middle now jobs why
    → StopsAmong before now ((front ++ jobs) ++ back) why
stops_later before middle now front jobs back why on were_read stops = record {
  earlier = files_named front ++ stops.earlier;
  name = stops.name;
  later = stops.later ++ files_named back;
  named = named_parts front jobs back
      ∙ ap (λ l. (files_named front ++ l) ++ files_named back) stops.named
      ∙ ap (λ l. l ++ files_named back) (sym (append_assoc (files_named front) stops.earlier (stops.name ∷ stops.later)))
      ∙ append_assoc (files_named front ++ stops.earlier) (stops.name ∷ stops.later) (files_named back);
  were_read = All-append (CanBeRead before.told) (files_named front) stops.earlier were_read
      (subst (λ told. All (CanBeRead told) stops.earlier) on.told stops.were_read);
  stop = IsStopOfFile-earlier before middle now stops.name why on stops.stop;
}

-- one more group's files were read
pub were_read_next : (told : Option (List File)) (groups : List Group) (k : ℕ) (group : Group) → k < length groups → group ≡ slice_index_or groups k group → All (CanBeRead told) (files_named (jobs_of (take k groups)))
    → All (CanBeRead told) (files_named group.jobs) → All (CanBeRead told) (files_named (jobs_of (take (k + 1) groups)))
were_read_next told groups k group lt is were_read read =
    subst (All (CanBeRead told))
    (sym (ap files_named (groups_next groups k group lt is) ∙ flat_map-append (λ (job : Job). file_named job.order) (jobs_of (take k groups)) group.jobs))
    (All-append (CanBeRead told) (files_named (jobs_of (take k groups))) (files_named group.jobs) were_read read)

-- a file of a later group could not be read
pub stops_in_group : (before middle now : ShelfSeen) (groups : List Group) (k : ℕ) (group : Group) (why : Why) → k < length groups → group ≡ slice_index_or groups k group → ShelfGoesOn before middle
    → All (CanBeRead before.told) (files_named (jobs_of (take k groups))) → StopsAmong middle now group.jobs why → StopsAmong before now (jobs_of groups) why
stops_in_group before middle now groups k group why lt is on were_read stops =
    subst (λ (l : List Job). StopsAmong before now l why) (sym (groups_around groups k group lt is))
    (stops_later before middle now (jobs_of (take k groups)) group.jobs (jobs_of (drop (suc k) groups)) why on were_read stops)
