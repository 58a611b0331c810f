-- What a run has of its text, group by group.
use Rattle.std.proofs.Common.{◌≡◌, ℕ, zero, suc, ◌+◌, ◌<◌, ◌≤◌, List, [], ◌∷◌, ◌++◌, map, length, take, drop, append_assoc, refl, sym, ap, subst, ◌∙◌, inl, inr, ◌⊎◌, arith}
use Rattle.std.specs.Prelude.{Option, Some, Bool, true, false, is_some, All, Contains, slice_index_or, ◌==◌, if◌then◌else◌}
use Rattle.std.specs.List.{flat_map}
use Rattle.std.proofs.lemmas.List.{append-nil, length-map, map-append, take_all}
use Rattle.std.proofs.lemmas.List.Elements.{All-append, All-cons, All-map, All-nil, Contains-append_left, Contains-append_right}
use Rattle.std.proofs.lemmas.Grind.{flat_map-append}
use mathlib.Core.Option.{some}
use lib.ListN.{get_elem?}
use Rattle.htss_defs.specs.declared.history.Event.{Event}
use Rattle.htss_defs.specs.declared.history.Event.TheVariants.{Publish}
use Rattle.htss_defs.specs.declared.history.Event.TheVariants as event
use Rattle.htss_defs.specs.declared.shape.Shape.{Shape}
use Rattle.htss_defs.specs.Shapes.{IsShape}
use Rattle.script_text.specs.declared.script.Job.{Job}
use Rattle.script_text.specs.declared.script.Group.{Group}
use Rattle.script_text.specs.declared.script.Order.{Order}
use Rattle.script_text.specs.declared.script.Order.TheVariants.{Load, Withdraw, Search}
use Rattle.script_text.specs.FilesByLine.{bytes_at}
use Rattle.report_text.specs.declared.report.Block.{Block}
use Rattle.report_text.specs.ReportText.{block_text, header_text, log_text, report_text}
use Rattle.report_text.specs.Typed.{IsTypedBlock}
use Rattle.report_text.specs.Values.{IsLogLine, IsU64}
use Rattle.report_rules.specs.Answers.{own_number}
use Rattle.report_rules.specs.Reports.{Done, IsByItsLoader, IsToldBy, done_block, done_lines, log_line}
use Rattle.report_rules.specs.Rules.{KeepsRule, Line}
use Rattle.report_rules.proofs.InGrammar.{AreShort, in_grammar}
use Rattle.board_core.specs.declared.account.Account.{Account}
use Rattle.board_core.specs.Accounts.{caller_after, is_loader}
use Rattle.board_core.specs.Each.{Each, sum_of}
use Rattle.board_core.specs.Histories.{history_of}
use Rattle.board_core.specs.LogRule as log
use Rattle.board_core.specs.Steps.{MayBe}
use Rattle.board_core.specs.Truths.{IsTrueStory}
use Rattle.board_core.specs.Words.{Parts}
use Rattle.board.specs.Closed.{AreFewChains, AreFewPages, Closing, HasAllLoaders, IsSettled, IsShown}
use Rattle.board.specs.Seated.{IsAtRest, Place, Seated, account_of}
use Rattle.board.specs.Seated as seated
use Rattle.board_jobs.specs.Groups.{AreNew}
use Rattle.board_jobs.specs.Ends.{IsEnd}
use Rattle.board_jobs.specs.Jobs.{IsThere}
use Rattle.board_jobs.proofs.Chained.{new_ready}
use Rattle.board_jobs.proofs.Named.{named, whole}
use Rattle.board_jobs.proofs.Places.{map_back}
use Rattle.board_jobs.proofs.Printing.{entries_printed}
use Rattle.board_jobs.proofs.LogLines.{log_lines}
use Rattle.board_jobs.proofs.Reported.{known_end, reported}
use Rattle.board_jobs.proofs.Rested.{run_pruned, run_read}
use Rattle.board_jobs.proofs.Ruled.{roomed, ruled}
use Rattle.board_jobs.proofs.Begun.{all_loaders}
use Rattle.board_jobs.proofs.Enough.{chains_enough, pages_enough}
use Rattle.board_jobs.proofs.Told.{all_dealt}
use Rattle.script_run.specs.declared.gate.Worker.{Worker}
use Rattle.script_run.specs.Working.{AreCallers}
use Rattle.script_run.specs.Workers.{accounts_of, callers_of}
use Rattle.run_command.specs.Hearing.{HaveGoneAndHeard}
use Rattle.run_command.proofs.Heard.{gone_and_heard}
use Rattle.outside.specs.Files.{File}
use Rattle.command_words.specs.Tasks.{run_of}
use Rattle.command_ends.specs.Outcomes.{Why}
use Rattle.command_ends.specs.Ends.{MayStop, ShelfGoesOn, ShelfSeen}
use Rattle.command_ends.specs.RunText.{AreFilesOf, HasItsFile, IsFileOf, IsRunFront, IsRunFrontAtAnyTime, IsTextBefore, ScriptWasRead, file_named, jobs_of}
use Rattle.run_command.specs.Headline.{IsRunOf}
use Rattle.run_command.specs.Searchers.{HaveSearched}
use Rattle.run_command.specs.Runs.{AreOnlyFor, AreWithin, HasDone, HasEnd, HaveFiles, IsGroupDone, RunMayStop, StopsAmong, StopsAtEnd, begun_text, lines_of_jobs, with_header}
use Rattle.command_ends.proofs.Causes.{MayStop-earlier, MayStop-of-file}
use Rattle.run_command.proofs.Gone.{gone_here, heard_nothing}
use Rattle.run_command.proofs.GroupsDone.{group_kept, groups_kept, one_more}
use Rattle.script_files.proofs.JobFiles.{split_at, take_next}
use Rattle.script_files.proofs.Rising.{groups_apart, script_has_group}

-- ---- files

there_by_order : (told : Option (List File)) (files : List (ℕ × List ℕ)) (line : ℕ) (order : Order) → All (IsFileOf told files line) (file_named order) → IsThere files line order
there_by_order told files line (Load file) have = ap (λ o. is_some o) ((have 0 file (omega arith)).1)
there_by_order told files line (Withdraw number) have = tt
there_by_order told files line (Search file budget) have = ap (λ o. is_some o) ((have 0 file (omega arith)).1)

-- the files that were read are there
pub are_there : (told : Option (List File)) (files : List (ℕ × List ℕ)) (jobs : List Job) → HaveFiles told files jobs → All (λ job. IsThere files job.line job.order) jobs
are_there told files jobs have = λ k d lt. let job = slice_index_or jobs k d in there_by_order told files job.line job.order (have.are k d lt)

kept_case : (here : Bool) (own : List ℕ) (old new : Option (List ℕ)) (bytes : List ℕ) → (old ≡ Some bytes → new ≡ Some bytes) → (if here then Some own else old) ≡ Some bytes → (if here then Some own else new) ≡ Some bytes
kept_case true own old new bytes rest at = at
kept_case false own old new bytes rest at = rest at

added_case : (here : Bool) (own : List ℕ) (old both new : Option (List ℕ)) → (((bytes : List ℕ) → old ≡ Some bytes → ⊥) → both ≡ new) → ((bytes : List ℕ) → (if here then Some own else old) ≡ Some bytes → ⊥) → (if here then Some own else both) ≡ new
added_case true own old both new rest none = absurd (none own refl)
added_case false own old both new rest none = rest none

kept_at : (old new : List (ℕ × List ℕ)) (line : ℕ) (bytes : List ℕ) → bytes_at old line ≡ Some bytes → bytes_at (old ++ new) line ≡ Some bytes
kept_at [] new line bytes at = absurd cc
kept_at (file ∷ old) new line bytes at = kept_case (line == file.0) file.1 (bytes_at old line) (bytes_at (old ++ new) line) bytes (λ is. kept_at old new line bytes is) at

added_at : (old new : List (ℕ × List ℕ)) (line : ℕ) → ((bytes : List ℕ) → bytes_at old line ≡ Some bytes → ⊥) → bytes_at (old ++ new) line ≡ bytes_at new line
added_at [] new line none = refl
added_at (file ∷ old) new line none = added_case (line == file.0) file.1 (bytes_at old line) (bytes_at (old ++ new) line) (bytes_at new line) (λ no_old. added_at old new line no_old) none

-- lines that the old files have not
no_old : (told : Option (List File)) (script : List ℕ) (before after : List Group) (group : Group) (files : List (ℕ × List ℕ)) → ScriptWasRead told script (before ++ group ∷ after) → AreOnlyFor files (jobs_of before) → (line : ℕ) → Contains (lines_of_jobs group.jobs) line → (bytes : List ℕ) → bytes_at files line ≡ Some bytes → ⊥
no_old told script before after group files read only line in_group bytes at = let less = groups_apart told script before after group read line line (only line bytes at) in_group in omega arith

line_of : (jobs : List Job) (k : ℕ) (d : Job) → k < length jobs → Contains (lines_of_jobs jobs) (slice_index_or jobs k d).line
line_of [] k d lt = absurd (omega arith)
line_of (job ∷ jobs) zero d lt = (0, omega arith, refl)
line_of (job ∷ jobs) (suc k) d lt = let rest = line_of jobs k d (omega arith) in (suc rest.0, omega arith, rest.2)

jobs_more : (before : List Group) (group : Group) → jobs_of (before ++ group ∷ []) ≡ jobs_of before ++ group.jobs
jobs_more before group = flat_map-append (λ (g : Group). g.jobs) before (group ∷ []) ∙ ap (λ jobs. jobs_of before ++ jobs) (append-nil group.jobs)

-- the bytes of the group's lines are the new files'
pub same_for : (told : Option (List File)) (script : List ℕ) (before after : List Group) (group : Group) (old new : List (ℕ × List ℕ)) → ScriptWasRead told script (before ++ group ∷ after) → AreOnlyFor old (jobs_of before) → All (λ job. bytes_at (old ++ new) job.line ≡ bytes_at new job.line) group.jobs
same_for told script before after group old new read only = λ k d lt. added_at old new (slice_index_or group.jobs k d).line (no_old told script before after group old read only (slice_index_or group.jobs k d).line (line_of group.jobs k d lt))

kept_files : (told : Option (List File)) (old new : List (ℕ × List ℕ)) (jobs : List Job) → AreFilesOf told old jobs → AreFilesOf told (old ++ new) jobs
kept_files told old new jobs are = λ k d lt m e lm. let was = are k d lt m e lm in (was.0, kept_at old new (slice_index_or jobs k d).line was.0 was.1, was.2)

added_files : (told : Option (List File)) (old new : List (ℕ × List ℕ)) (jobs : List Job) → All (λ job. bytes_at (old ++ new) job.line ≡ bytes_at new job.line) jobs → AreFilesOf told new jobs → AreFilesOf told (old ++ new) jobs
added_files told old new jobs same are = λ k d lt m e lm. let was = are k d lt m e lm in (was.0, same k d lt ∙ was.1, was.2)

which : (here : Bool) (own : List ℕ) (old both new : Option (List ℕ)) (bytes : List ℕ) → (both ≡ Some bytes → (old ≡ Some bytes) ⊎ (new ≡ Some bytes)) → (if here then Some own else both) ≡ Some bytes → ((if here then Some own else old) ≡ Some bytes) ⊎ (new ≡ Some bytes)
which true own old both new bytes rest at = inl at
which false own old both new bytes rest at = rest at

only_case : (old new : List (ℕ × List ℕ)) (line : ℕ) (bytes : List ℕ) → bytes_at (old ++ new) line ≡ Some bytes → (bytes_at old line ≡ Some bytes) ⊎ (bytes_at new line ≡ Some bytes)
only_case [] new line bytes at = inr at
only_case (file ∷ old) new line bytes at = which (line == file.0) file.1 (bytes_at old line) (bytes_at (old ++ new) line) (bytes_at new line) bytes (λ is. only_case old new line bytes is) at

only_both : (old new : List (ℕ × List ℕ)) (jobs others : List Job) → AreOnlyFor old jobs → AreOnlyFor new others → AreOnlyFor (old ++ new) (jobs ++ others)
only_both old new jobs others old_only new_only =
    λ line bytes at.
    subst (λ lines. Contains lines line) (sym (map-append (λ (job : Job). job.line) jobs others))
    (elim (only_case old new line bytes at) [
      | inl is ↦ Contains-append_left (lines_of_jobs jobs) (lines_of_jobs others) line (old_only line bytes is)
      | inr is ↦ Contains-append_right (lines_of_jobs jobs) (lines_of_jobs others) line (new_only line bytes is)
    ])

within_both : (old new : List (ℕ × List ℕ)) → AreWithin old → AreWithin new → AreWithin (old ++ new)
within_both old new first second = λ line bytes at. elim (only_case old new line bytes at) [ inl is ↦ first line bytes is | inr is ↦ second line bytes is ]

-- a file that may be read is a short one
short : (files : List (ℕ × List ℕ)) → AreWithin files → AreShort files
short files within = λ line bytes at. omega (arith, within line bytes at)

-- the files of one group more
pub have_group : (told : Option (List File)) (script : List ℕ) (before after : List Group) (group : Group) (old new : List (ℕ × List ℕ)) → ScriptWasRead told script (before ++ group ∷ after) → HaveFiles told old (jobs_of before) → HaveFiles told new group.jobs → HaveFiles told (old ++ new) (jobs_of (before ++ group ∷ []))
have_group told script before after group old new read old_have new_have =
    subst (HaveFiles told (old ++ new)) (sym (jobs_more before group))
    (record {
      are = All-append (HasItsFile told (old ++ new)) (jobs_of before) group.jobs (kept_files told old new (jobs_of before) old_have.are)
          (added_files told old new group.jobs (same_for told script before after group old new read old_have.only) new_have.are);
      only = only_both old new (jobs_of before) group.jobs old_have.only new_have.only;
      within = within_both old new old_have.within new_have.within;
    })

-- ---- the text

header_begins : (shape : Shape) (budget : ℕ) → (rest : List ℕ) × (header_text shape budget ≡ 104 ∷ rest)
unfolding header_text
header_begins shape budget = (_, refl)

header_stays : (shape : Shape) (budget : ℕ) (more : List ℕ) → with_header (header_text shape budget ++ more) shape budget ≡ header_text shape budget ++ more
header_stays shape budget more = let begins = header_begins shape budget in rw begins.1 refl

-- the text with its first line
pub header_is : (told : Option (List File)) (before : List Group) (shape : Shape) (budget : ℕ) (accounts : List Account) (text : List ℕ) (done : HasDone told before shape budget accounts text) → with_header text shape budget ≡ header_text shape budget ++ flat_map block_text (map done_block done.done)
header_is told [] shape budget accounts text done =
    ap (λ t. with_header t shape budget) done.text_is
    ∙ sym (append-nil (header_text shape budget))
    ∙ ap (λ (l : List Done). header_text shape budget ++ flat_map block_text (map done_block l)) (sym done.are_done.1)
header_is told (group ∷ before) shape budget accounts text done =
    ap (λ t. with_header t shape budget) done.text_is ∙ header_stays shape budget (flat_map block_text (map done_block done.done))

-- callers that had these accounts went on to a board's end
pub record IsReached (shape : Shape) (accounts : List Account) : Type 0 where
  pub limits : IsShape shape
  pub last : List Account
  pub words : Parts
  pub heard : HaveGoneAndHeard shape accounts last
  pub end : IsEnd shape words last

pub reached_by : (shape : Shape) (accounts last : List Account) (history : List Event) → IsShape shape → HaveGoneAndHeard shape accounts last → HasEnd shape last history → IsReached shape accounts
reached_by shape accounts last history limits heard end = record { limits = limits; last = last; words = end.words; heard = heard; end = end.end }

pub reached_here : (shape : Shape) (accounts : List Account) (history : List Event) → IsShape shape → HasEnd shape accounts history → IsReached shape accounts
reached_here shape accounts history limits end = reached_by shape accounts accounts history limits (heard_nothing shape accounts) end

-- the groups that are done, with the first line and their blocks
pub front_is : (told : Option (List File)) (before : List Group) (shape : Shape) (budget : ℕ) (accounts : List Account) (text : List ℕ) → IsReached shape accounts → HasDone told before shape budget accounts text → IsRunFront told before shape budget (with_header text shape budget)
front_is told before shape budget accounts text reached done =
    let (between, gone, end) = gone_and_heard shape reached.words accounts reached.last reached.heard reached.end in
    let seen : List Event = take done.front (history_of shape reached.words) in
    record {
      files = done.files;
      files_read = done.have.are;
      report = record { shape = shape; budget = budget; blocks = map done_block done.done; events = map log_line seen };
      is_report = reported shape done.files budget before done.new accounts between done.front done.done reached.words reached.limits done.are_new done.are_done gone end
          (short done.files done.have.within) done.fits done.typed seen refl;
      front_is = header_is told before shape budget accounts text done;
    }

text_stays : (told : Option (List File)) (group : Group) (before : List Group) (shape : Shape) (budget : ℕ) (events : List Account) (text : List ℕ) → HasDone told (group ∷ before) shape budget events text → with_header text shape budget ≡ text
text_stays told group before shape budget events text done =
    header_is told (group ∷ before) shape budget events text done ∙ sym done.text_is

-- the text before a group
pub text_before : (told : Option (List File)) (before : List Group) (shape : Shape) (budget : ℕ) (accounts : List Account) (text : List ℕ) → IsReached shape accounts → HasDone told before shape budget accounts text → IsTextBefore told before shape budget text
text_before told [] shape budget accounts text reached done = done.text_is
text_before told (group ∷ before) shape budget accounts text reached done =
    subst (IsRunFront told (group ∷ before) shape budget) (text_stays told group before shape budget accounts text done)
    (front_is told (group ∷ before) shape budget accounts text reached done)

begun_more : (before : List Group) (group : Group) (shape : Shape) (budget : ℕ) (blocks : List Block) → begun_text (before ++ group ∷ []) shape budget blocks ≡ header_text shape budget ++ flat_map block_text blocks
begun_more [] group shape budget blocks = refl
begun_more (first ∷ before) group shape budget blocks = refl

-- one group more is done
pub done_more : (told : Option (List File)) (script : List ℕ) (before after : List Group) (group : Group) (shape : Shape) (budget : ℕ) (files : List (ℕ × List ℕ)) (old new : List Account) (text text_now : List ℕ) (blocks : List Block) → ScriptWasRead told script (before ++ group ∷ after) → HaveFiles told files group.jobs → IsGroupDone shape files budget group old new blocks → All IsTypedBlock blocks → text_now ≡ with_header text shape budget ++ flat_map block_text blocks → HasDone told before shape budget old text → HasDone told (before ++ group ∷ []) shape budget new text_now
done_more told script before after group shape budget files old new text text_now blocks read have is_done typed text_is done =
    let (front, more, one, blocks_are) = is_done (1 + length before) in
    let both : List (ℕ × List ℕ) = done.files ++ files in
    let those = groups_kept shape done.files both budget (λ line bytes at. kept_at done.files files line bytes at) 1 before done.new old done.front done.done done.are_done in
    let this = group_kept shape files both budget (λ line bytes at. added_at done.files files line (no_old told script before after group done.files read done.have.only line (have.only line bytes at)) ∙ at) (1 + length before) group old new front more one in
    record {
      files = both;
      have = have_group told script before after group done.files files read done.have have;
      new = done.new;
      are_new = done.are_new;
      front = front;
      done = done.done ++ more;
      fits = done.fits;
      typed = subst (All IsTypedBlock) (sym (map-append done_block done.done more))
          (All-append IsTypedBlock (map done_block done.done) (map done_block more) done.typed (subst (All IsTypedBlock) blocks_are typed));
      are_done = one_more shape both budget 1 before group done.new old new done.front front done.done more those this;
      text_is = text_is
          ∙ ap (λ (l : List Block). with_header text shape budget ++ flat_map block_text l) blocks_are
          ∙ ap (λ t. t ++ flat_map block_text (map done_block more)) (header_is told before shape budget old text done)
          ∙ append_assoc (header_text shape budget) (flat_map block_text (map done_block done.done)) (flat_map block_text (map done_block more))
          ∙ ap (λ t. header_text shape budget ++ t) (sym (flat_map-append block_text (map done_block done.done) (map done_block more)))
          ∙ ap (λ (l : List Block). header_text shape budget ++ flat_map block_text l) (sym (map-append done_block done.done more))
          ∙ sym (begun_more before group shape budget (map done_block (done.done ++ more)));
    }

begun_is : (groups : List Group) (shape : Shape) (budget : ℕ) (blocks : List Block) → 1 ≤ length groups → begun_text groups shape budget blocks ≡ header_text shape budget ++ flat_map block_text blocks
begun_is [] shape budget blocks any = absurd (omega arith)
begun_is (group ∷ groups) shape budget blocks any = refl

report_is : (shape : Shape) (budget : ℕ) (blocks : List Block) (events : List Event) → report_text (record { shape = shape; budget = budget; blocks = blocks; events = map log_line events }) ≡ (header_text shape budget ++ flat_map block_text blocks) ++ log_text (map log_line events)
unfolding report_text
report_is shape budget blocks events = refl

-- the board's word for an event by a loader, and the report's
by_loader : (shape : Shape) (one : Event) → log.IsByLoader shape one → IsByItsLoader shape one
by_loader shape (Publish caller name mol) by = by
by_loader shape (event.Withdraw caller number) by = by

all_by_loaders : (shape : Shape) (history : List Event) → Each (log.IsByLoader shape) history → All (IsByItsLoader shape) history
all_by_loaders shape [] each = All-nil (IsByItsLoader shape)
all_by_loaders shape (one ∷ rest) each = All-cons (IsByItsLoader shape) one rest (by_loader shape one (each 0 one refl)) (all_by_loaders shape rest (λ j. each (suc j)))

-- a board that was closed, whose callers had these accounts
pub record IsClosedWith (shape : Shape) (accounts : List Account) (last : Closing) : Type 0 where
  pub shape_is : last.shape ≡ shape
  pub accounts_are : last.accounts ≡ accounts
  pub end : HasEnd shape accounts last.history
  pub settled : IsSettled last
  pub shown : IsShown last

-- all of its loaders are there, so its refusals for want of pages have the insertions that they need
loaders_there : (shape : Shape) (accounts : List Account) (last : Closing) → IsClosedWith shape accounts last → HasAllLoaders last
loaders_there shape accounts last closed =
    let end = closed.end.end in
    subst (λ (l : List Account). sum_of (λ a. is_loader a.who) l ≡ last.shape.loaders) (sym closed.accounts_are)
    (subst (λ (k : Shape). sum_of (λ (a : Account). is_loader a.who) accounts ≡ k.loaders) (sym closed.shape_is) (all_loaders shape accounts end.count end.callers))

few_pages : (shape : Shape) (accounts : List Account) (last : Closing) → IsClosedWith shape accounts last → AreFewPages shape accounts
few_pages shape accounts last closed =
    subst (λ (l : List Account). AreFewPages shape l) closed.accounts_are (subst (λ (k : Shape). AreFewPages k last.accounts) closed.shape_is (closed.settled.few (loaders_there shape accounts last closed)))

few_chains : (shape : Shape) (accounts : List Account) (last : Closing) → IsClosedWith shape accounts last → AreFewChains shape accounts
few_chains shape accounts last closed =
    subst (λ (l : List Account). AreFewChains shape l) closed.accounts_are (subst (λ (k : Shape). AreFewChains k last.accounts) closed.shape_is (closed.settled.full (loaders_there shape accounts last closed)))

-- all groups are done, and the log is written
pub run_is : (told : Option (List File)) (script : List ℕ) (groups : List Group) (shape : Shape) (budget : ℕ) (accounts : List Account) (text text_now : List ℕ) (last : Closing) → IsShape shape → IsClosedWith shape accounts last → ScriptWasRead told script groups → text_now ≡ text ++ log_text (map log_line last.history) → HasDone told groups shape budget accounts text → IsRunOf told script shape budget text_now last
run_is told script groups shape budget accounts text text_now last limits closed read text_is done =
    let words : Parts = closed.end.words in
    let end : IsEnd shape words accounts = closed.end.end in
    let dealt = all_dealt shape done.files budget 1 groups done.new accounts done.front done.done done.are_done in
    let whole_is : take done.front (history_of shape words) ≡ last.history =
    whole shape done.files budget groups done.new accounts accounts done.front done.done words done.are_new done.are_done refl end ∙ closed.end.shows in
    let within : length last.history ≤ shape.log = subst (λ (k : Shape). length last.history ≤ k.log) closed.shape_is closed.settled.fits in
    let by = all_by_loaders shape last.history (subst (λ (k : Shape). Each (log.IsByLoader k) last.history) closed.shape_is closed.settled.loaders) in
    let told_by : IsToldBy groups done.files shape budget last.history (map done_block done.done) =
    record {
      done = done.done;
      jobs = dealt.0;
      by_files = dealt.1;
      blocks_are = refl;
      rules = subst (λ (h : List Event). (earlier later : List Line) (line : Line) → flat_map done_lines done.done ≡ earlier ++ line ∷ later → KeepsRule shape h earlier line) whole_is
          (ruled shape done.files budget groups done.new accounts accounts done.front done.done words limits done.are_new done.are_done (gone_here shape accounts) end);
      named = subst (λ (h : List Event). (number : ℕ) → 1 ≤ number → number ≤ length h → Contains (flat_map (λ line. own_number line.answer) (flat_map done_lines done.done)) number) whole_is
          (named shape done.files budget groups done.new accounts accounts done.front done.done words done.are_new done.are_done (gone_here shape accounts) end);
    } in
    let lines : All IsLogLine (map log_line last.history) =
    All-map IsLogLine log_line last.history
    (subst (All (λ e. IsLogLine (log_line e))) closed.end.shows
    (log_lines shape words limits (known_end shape words accounts limits end) (subst (All (IsByItsLoader shape)) (sym closed.end.shows) by))) in
    record {
      run = record {
        groups = groups;
        script_read = read;
        files = done.files;
        files_read = done.have.are;
        report = record { shape = shape; budget = budget; blocks = map done_block done.done; events = map log_line last.history };
        is_report = record {
          in_grammar = in_grammar groups done.files shape budget last.history _ limits refl done.fits (short done.files done.have.within) within (length-map last.history log_line) told_by done.typed lines;
          in_limits = limits;
          shape_is = refl;
          budget_is = refl;
          history = last.history;
          within = within;
          legal = closed.settled.legal;
          loaders = by;
          log = refl;
          told = told_by;
        };
        text_is = text_is
            ∙ ap (λ t. t ++ log_text (map log_line last.history)) (done.text_is ∙ begun_is groups shape budget (map done_block done.done) (script_has_group told script groups read))
            ∙ sym (report_is shape budget (map done_block done.done) last.history);
      };
      rooms = roomed shape done.files budget groups done.new accounts accounts done.front done.done words limits done.are_new done.are_done (gone_here shape accounts) end;
      pages = pages_enough shape done.files budget groups done.new accounts done.front done.done limits done.are_new done.are_done (few_pages shape accounts last closed);
      chains = chains_enough shape done.files budget groups done.new accounts done.front done.done limits done.are_new done.are_done (few_chains shape accounts last closed);
      same = refl;
      events = refl;
      shape_is = closed.shape_is;
      settled = closed.settled;
      count = ap length closed.accounts_are ∙ end.count;
      each = λ i a there.
          let at = subst (λ (l : List Account). get_elem? l i ≡ some a) closed.accounts_are there in
          record { who = end.callers i a at; entries = entries_printed shape done.files budget groups done.new accounts done.front done.done limits done.are_new done.are_done i a at };
      pruned = λ i a from there.
          let at = subst (λ (l : List Account). get_elem? l i ≡ some a) closed.accounts_are there in
          run_pruned shape done.files budget groups done.new accounts done.front done.done limits done.are_new done.are_done i a from at;
    }

-- its searchers have read screened records
pub run_reads : (told : Option (List File)) (groups : List Group) (shape : Shape) (budget : ℕ) (accounts : List Account)
    (text : List ℕ) (last : Closing) → IsShape shape → IsClosedWith shape accounts last
    → HasDone told groups shape budget accounts text → HaveSearched shape last
run_reads told groups shape budget accounts text last limits closed done = record {
  shape_is = closed.shape_is;
  shown = closed.shown;
  read = λ i a from there.
      let at = subst (λ (l : List Account). get_elem? l i ≡ some a) closed.accounts_are there in
      let may = subst (λ (k : Shape). MayBe k closed.shown.words a) closed.shape_is (closed.shown.may i a there) in
      run_read shape done.files budget groups done.new accounts done.front done.done limits done.are_new done.are_done
      i a from at closed.shown.words may;
}

-- ---- the end of a board

-- what a closed board says of itself is its end
settled_end : (shape : Shape) (accounts : List Account) (last : Closing) → IsSettled last → IsShown last → last.shape ≡ shape → last.accounts ≡ accounts → length accounts ≡ shape.loaders + shape.searchers → ((i : ℕ) (a : Account) → get_elem? accounts i ≡ some a → a.who ≡ caller_after shape i) → HasEnd shape accounts last.history
settled_end shape accounts last settled shown shape_is accounts_are count callers = record {
  words = shown.words;
  end = record {
    may = subst (λ (l : List Account). Each (MayBe shape shown.words) l) accounts_are (subst (λ (k : Shape). Each (MayBe k shown.words) last.accounts) shape_is shown.may);
    stories = subst (λ (l : List Account). Each (λ a. IsTrueStory shape (history_of shape shown.words) a.who a.entries) l) accounts_are
        (subst (λ (k : Shape). Each (λ a. IsTrueStory k (history_of k shown.words) a.who a.entries) last.accounts) shape_is
        (subst (λ (h : List Event). Each (λ a. IsTrueStory last.shape h a.who a.entries) last.accounts) (sym shown.shows) settled.stories));
    loaders = subst (λ (k : Shape). Each (log.IsByLoader k) (history_of k shown.words)) shape_is (subst (λ (h : List Event). Each (log.IsByLoader last.shape) h) (sym shown.shows) settled.loaders);
    count = count;
    callers = callers;
  };
  shows = ap (λ (k : Shape). history_of k shown.words) (sym shape_is) ∙ shown.shows;
}

-- the accounts of workers are those of their callers
pub accounts_are : {G : Type 0} (workers : List (Worker G)) → map account_of (callers_of workers) ≡ accounts_of workers
accounts_are [] = refl
accounts_are (w ∷ ws) = ap (λ (l : List Account). w.caller.account ∷ l) (accounts_are ws)

pub callers_count : {G : Type 0} (workers : List (Worker G)) → length (callers_of workers) ≡ length workers
callers_count workers = length-map workers (λ w. w.caller)

pub closed_with : {G : Type 0} (b : Place) (workers : List (Worker G)) (last : Closing) → AreCallers b (callers_of workers) → last.shape ≡ b.shape → last.accounts ≡ map account_of (callers_of workers) → IsSettled last → IsShown last → IsClosedWith b.shape (accounts_of workers) last
closed_with b workers last are shape_is accounts_is settled shown =
    let count : length (accounts_of workers) ≡ b.shape.loaders + b.shape.searchers = ap length (sym (accounts_are workers)) ∙ length-map (callers_of workers) account_of ∙ are.count in
    let callers : (i : ℕ) (a : Account) → get_elem? (accounts_of workers) i ≡ some a → a.who ≡ caller_after b.shape i =
    λ i a there.
    let (c, at, is) = map_back account_of (callers_of workers) i a (subst (λ (l : List Account). get_elem? l i ≡ some a) (sym (accounts_are workers)) there) in
    ap (λ (x : Account). x.who) (sym is) ∙ (are.each i c at).1 in
    let now : last.accounts ≡ accounts_of workers = accounts_is ∙ accounts_are workers in
    record {
      shape_is = shape_is;
      accounts_are = now;
      end = settled_end b.shape (accounts_of workers) last settled shown shape_is now count callers;
      settled = settled;
      shown = shown;
    }

-- callers that are ready are at rest
pub at_rest : (b : Place) (callers : List Seated) → AreCallers b callers → Each (IsAtRest b) callers
at_rest b callers are i c there = let (of, who, ready) = are.each i c there in record { of = of; free = ready.free; unpinned = ready.unpinned }

-- new callers are ready
pub new_callers : (b : Place) (callers : List Seated) → length callers ≡ b.shape.loaders + b.shape.searchers → seated.AreNew b callers → AreCallers b callers
new_callers b callers count new = record {
  count = count;
  each = λ i c there.
      let one = new i c there in
      (one.of, ap (λ (a : Account). a.who) one.account, new_ready b i c one);
}

pub new_accounts : {G : Type 0} (b : Place) (workers : List (Worker G)) → length (callers_of workers) ≡ b.shape.loaders + b.shape.searchers → seated.AreNew b (callers_of workers) → AreNew b.shape (accounts_of workers)
new_accounts b workers count new = (
  ap length (sym (accounts_are workers)) ∙ length-map (callers_of workers) account_of ∙ count,
  λ i a there.
      let (c, at, is) = map_back account_of (callers_of workers) i a (subst (λ (l : List Account). get_elem? l i ≡ some a) (sym (accounts_are workers)) there) in
      sym is ∙ (new i c at).account,
)

-- ---- stops

-- what there may be of the text where memory runs out before the group has begun
any_time : (told : Option (List File)) (script : List ℕ) (before after : List Group) (group : Group) (shape : Shape) (budget : ℕ) (accounts : List Account) (text : List ℕ) → IsReached shape accounts → ScriptWasRead told script (before ++ group ∷ after) → HasDone told before shape budget accounts text → IsRunFrontAtAnyTime told script shape budget text
any_time told script [] after group shape budget accounts text reached read done = inl done.text_is
any_time told script (first ∷ before) after group shape budget accounts text reached read done =
    inr (record { before = first ∷ before; after = group ∷ after; script_read = read; front_is = text_before told (first ∷ before) shape budget accounts text reached done })

-- the same, where memory may have run out before or after the first line was there
pub any_time_in_group : (told : Option (List File)) (script : List ℕ) (before after : List Group) (group : Group) (shape : Shape) (budget : ℕ) (accounts : List Account) (text text_now : List ℕ) → IsReached shape accounts → ScriptWasRead told script (before ++ group ∷ after) → HasDone told before shape budget accounts text → (text_now ≡ text) ⊎ (text_now ≡ with_header text shape budget) → IsRunFrontAtAnyTime told script shape budget text_now
any_time_in_group told script before after group shape budget accounts text text_now reached read done (inl is) =
    subst (IsRunFrontAtAnyTime told script shape budget) (sym is) (any_time told script before after group shape budget accounts text reached read done)
any_time_in_group told script before after group shape budget accounts text text_now reached read done (inr is) =
    subst (IsRunFrontAtAnyTime told script shape budget) (sym is)
    (inr (record { before = before; after = group ∷ after; script_read = read; front_is = front_is told before shape budget accounts text reached done }))

-- a file of the group could not be read
pub stops_at_file : (seen now : ShelfSeen) (script : List ℕ) (before after : List Group) (group : Group) (shape : Shape) (budget : ℕ) (accounts : List Account) (text : List ℕ) (why : Why) → IsReached shape accounts → ScriptWasRead seen.told script (before ++ group ∷ after) → HasDone seen.told before shape budget accounts text → StopsAmong seen now group.jobs why → MayStop (run_of script shape budget) seen now text why
stops_at_file seen now script before after group shape budget accounts text why reached read done stops =
    MayStop-of-file (run_of script shape budget) seen now text stops.name why
    (inr (record {
      before = before;
      group = group;
      after = after;
      script_read = read;
      earlier = stops.earlier;
      later = stops.later;
      named = stops.named;
      were_read = stops.were_read;
      front_is = text_before seen.told before shape budget accounts text reached done;
    }))
    (any_time seen.told script before after group shape budget accounts text reached read done)
    stops.stop

-- memory runs out once all groups are done
pub any_time_at_the_end : (told : Option (List File)) (script : List ℕ) (groups : List Group) (shape : Shape) (budget : ℕ) (accounts : List Account) (text : List ℕ) → IsReached shape accounts → ScriptWasRead told script groups → HasDone told groups shape budget accounts text → IsRunFrontAtAnyTime told script shape budget text
any_time_at_the_end told script [] shape budget accounts text reached read done = inl done.text_is
any_time_at_the_end told script (group ∷ groups) shape budget accounts text reached read done =
    inr (record { before = group ∷ groups; after = []; script_read = subst (ScriptWasRead told script) (sym (append-nil (group ∷ groups))) read; front_is = text_before told (group ∷ groups) shape budget accounts text reached done })

-- ---- the beginning

-- nothing is done
pub none_done : (told : Option (List File)) (shape : Shape) (budget : ℕ) (accounts : List Account) (text : List ℕ) → AreNew shape accounts → text ≡ [] → IsU64 budget → HasDone told [] shape budget accounts text
none_done told shape budget accounts text new empty fits = record {
  files = [];
  have = record { are = λ k d lt. absurd (omega arith); only = λ line bytes at. absurd cc; within = λ line bytes at. absurd cc };
  new = accounts;
  are_new = new;
  front = 0;
  done = [];
  are_done = (refl, refl, λ i a there. ap (λ (x : Account). x.log.seen) (new.1 i a there));
  fits = fits;
  typed = All-nil IsTypedBlock;
  text_is = empty;
}

-- ---- the groups, one after the other

around : (groups : List Group) (k : ℕ) (group : Group) → k < length groups → group ≡ slice_index_or groups k group → groups ≡ take k groups ++ group ∷ drop (suc k) groups
around groups k group lt is = split_at groups k group lt ∙ ap (λ g. take k groups ++ g ∷ drop (suc k) groups) (sym is)

-- a group's stop is one of the run
pub stops_in_loop : (seen middle now : ShelfSeen) (script : List ℕ) (groups : List Group) (k : ℕ) (group : Group) (shape : Shape) (budget : ℕ) (accounts last : List Account) (history : List Event) (text text_now : List ℕ) (why : Why) → k < length groups → group ≡ slice_index_or groups k group → ShelfGoesOn seen middle → ((before after : List Group) → HasDone middle.told before shape budget accounts text → StopsAtEnd shape last (RunMayStop middle.told (before ++ group ∷ after) shape budget middle now text_now why)) → HasEnd shape last history → ScriptWasRead seen.told script groups → HasDone seen.told (take k groups) shape budget accounts text → MayStop (run_of script shape budget) seen now text_now why
stops_in_loop seen middle now script groups k group shape budget accounts last history text text_now why lt is on stops end read done =
    MayStop-earlier (run_of script shape budget) seen middle now text_now why on
    (stops (take k groups) (drop (suc k) groups) (subst (λ t. HasDone t (take k groups) shape budget accounts text) (sym on.told) done) history end script
    (subst (λ gs. ScriptWasRead middle.told script gs) (around groups k group lt is) (subst (λ t. ScriptWasRead t script groups) (sym on.told) read)))

-- a group more is done
pub done_in_loop : (seen middle : ShelfSeen) (script : List ℕ) (groups : List Group) (k : ℕ) (group : Group) (shape : Shape) (budget : ℕ) (old new : List Account) (text text_now : List ℕ) → k < length groups → group ≡ slice_index_or groups k group → ShelfGoesOn seen middle → ((before after : List Group) (script : List ℕ) → ScriptWasRead middle.told script (before ++ group ∷ after) → HasDone middle.told before shape budget old text → HasDone middle.told (before ++ group ∷ []) shape budget new text_now) → ScriptWasRead seen.told script groups → HasDone seen.told (take k groups) shape budget old text → HasDone seen.told (take (k + 1) groups) shape budget new text_now
done_in_loop seen middle script groups k group shape budget old new text text_now lt is on more read done =
    subst (λ gs. HasDone seen.told gs shape budget new text_now) (sym (take_next groups k group lt is))
    (subst (λ t. HasDone t (take k groups ++ group ∷ []) shape budget new text_now) on.told
    (more (take k groups) (drop (suc k) groups) script
    (subst (λ gs. ScriptWasRead middle.told script gs) (around groups k group lt is) (subst (λ t. ScriptWasRead t script groups) (sym on.told) read))
    (subst (λ t. HasDone t (take k groups) shape budget old text) (sym on.told) done)))

pub all_done : (told : Option (List File)) (groups : List Group) (k : ℕ) (shape : Shape) (budget : ℕ) (events : List Account) (text : List ℕ) → length groups ≤ k → HasDone told (take k groups) shape budget events text → HasDone told groups shape budget events text
all_done told groups k shape budget events text over done = subst (λ gs. HasDone told gs shape budget events text) (take_all k groups over) done
