-- What an audit of the bytes of a report owes: the files of the jobs, and few lines.
use Rattle.std.proofs.Common.{◌≡◌, inr, ℕ, ◌+◌, ◌^◌, ◌<◌, ◌≤◌, List, [], ◌∷◌, ◌++◌, length, map, refl, sym, ap, ◌∙◌, subst, arith}
use Rattle.std.specs.Prelude.{All, Option, Some, IsSome, sum_by, slice_index_or}
use Rattle.std.specs.List.{flat_map}
use Rattle.std.proofs.lemmas.List.{length-append, length-map}
use Rattle.std.proofs.lemmas.List.Concat.{flat_map-cons}
use Rattle.std.proofs.lemmas.List.Sums.{sum_by-cons}
use Rattle.std.proofs.lemmas.List.Elements.{All-head}
use Rattle.htss_defs.specs.declared.history.Hit.{Hit}
use Rattle.outside.specs.Files.{File, file_limit}
use Rattle.script_text.specs.declared.script.Job.{Job}
use Rattle.script_text.specs.declared.script.Order.{Order}
use Rattle.script_text.specs.declared.script.Order.TheVariants.{Load, Withdraw, Search}
use Rattle.script_text.specs.FilesByLine.{bytes_at}
use Rattle.report_text.specs.declared.report.Report.{Report}
use Rattle.report_text.specs.declared.report.Block.{Block}
use Rattle.report_text.specs.declared.report.Block.TheVariants as block
use Rattle.report_text.specs.declared.report.LoadLine.{LoadLine}
use Rattle.report_text.specs.declared.report.LogLine.{LogLine}
use Rattle.report_text.specs.declared.report.SearchLine.{SearchLine}
use Rattle.report_text.specs.declared.report.SearchLine.TheVariants.{Hits, OverBudget, Refused}
use Rattle.report_text.specs.ReportText.{published_count, report_text}
use Rattle.report_text.specs.Values.{IsInGrammar}
use Rattle.report_lines.specs.Lines.{line_text}
use Rattle.report_lines.specs.declared.line.Line.{Line}
use Rattle.report_lines.specs.declared.line.Line.TheVariants.{Answer, OneHit}
use Rattle.report_read.specs.Faults.{cut_lines}
use Rattle.report_read.specs.ReportLines.{answer_lines, block_lines, event_lines, hit_lines, report_lines}
use Rattle.report_read.proofs.Cuts.{cut_report, few_cut}
use Rattle.report_rules.specs.Faults.{block_length, line_of_event, search_length}
use Rattle.report_audit.specs.declared.verdict.Verdict.{Verdict}
use Rattle.report_audit.specs.declared.verdict.Verdict.TheVariants.{Holds, Differs}
use Rattle.report_audit.specs.Audits.{IsVerdict, MayBeAudited}
use Rattle.told_history.specs.Reads as reads
use Rattle.audit_command.specs.Findings.{IsJudged}
use Rattle.command_ends.specs.RunText.{AreFilesOf, HasItsFile, IsFileOf, file_named, jobs_of}
use Rattle.script_text.specs.declared.script.Group.{Group}

-- ---- the files of the jobs

is_there : (told : Option (List File)) (files : List (ℕ × List ℕ)) (line : ℕ) (name : List ℕ) → IsFileOf told files line name → IsSome (bytes_at files line)
is_there told files line name is = subst IsSome (sym is.1) refl

has_file : (told : Option (List File)) (files : List (ℕ × List ℕ)) (line : ℕ) (order : Order) → All (IsFileOf told files line) (file_named order) → reads.HasItsFile files line order
has_file told files line (Load file) has = is_there told files line file (All-head (IsFileOf told files line) file [] has)
has_file told files line (Withdraw number) has = tt
has_file told files line (Search file budget) has = is_there told files line file (All-head (IsFileOf told files line) file [] has)

pub have_files : (told : Option (List File)) (files : List (ℕ × List ℕ)) (jobs : List Job) → AreFilesOf told files jobs → All (λ job. reads.HasItsFile files job.line job.order) jobs
have_files told files jobs are = λ k d lt. let job = slice_index_or jobs k d in has_file told files job.line job.order (are k d lt)

-- ---- the lines of a report

length_search : (line : ℕ) (file : List ℕ) (answer : SearchLine) → search_length answer ≡ length (block_lines (block.Search line file answer))
length_search line file (Hits front hits rows records) = omega (arith, length-map hits (λ (hit : Hit). OneHit hit), length-append (hit_lines hits) (Line.HitsEnd (length hits) rows records ∷ []))
length_search line file (OverBudget front budget) = refl
length_search line file (Refused at code) = refl

length_block : (one : Block) → block_length one ≡ length (block_lines one)
length_block (block.Load line file answers) = omega (arith, length-map answers (λ (answer : LoadLine). Answer answer), length-append (answer_lines answers) (Line.Loaded (published_count answers) ∷ []))
length_block (block.Withdraw line number answer) = refl
length_block (block.Search line file answer) = length_search line file answer

length_blocks : (blocks : List Block) → sum_by block_length blocks ≡ length (flat_map block_lines blocks)
length_blocks [] = refl
length_blocks (one ∷ blocks) =
    sum_by-cons block_length one blocks
    ∙ ap (λ n. n + sum_by block_length blocks) (length_block one)
    ∙ ap (λ n. length (block_lines one) + n) (length_blocks blocks)
    ∙ sym (length-append (block_lines one) (flat_map block_lines blocks))
    ∙ ap (λ (l : List Line). length l) (sym (flat_map-cons block_lines one blocks))

length_events : (number : ℕ) (events : List LogLine) → length (event_lines number events) ≡ length events
length_events number [] = refl
length_events number (event ∷ events) = let rest = length_events (number + 1) events in omega (arith, rest)

length_report : (report : Report) → length (report_lines report) ≡ line_of_event report (length report.events) + 1
length_report report =
    let blocks = length_blocks report.blocks in
    let events = length_events 1 report.events in
    let last = length-append (event_lines 1 report.events) (Line.End ∷ []) in
    let all = length-append (flat_map block_lines report.blocks) (Line.Log (length report.events) ∷ (event_lines 1 report.events ++ Line.End ∷ [])) in
    omega (arith, blocks, events, last, all)

-- no more lines than bytes
few_lines : (report : Report) → IsInGrammar report → line_of_event report (length report.events) ≤ length (report_text report)
few_lines report good =
    let cut = ap (λ (l : List (List ℕ)). length l) (cut_report report good) in
    let same = length-map (report_lines report) line_text in
    let few = few_cut (report_text report) in
    let long = length_report report in
    omega (arith, cut, same, few, long)

pub may_be_audited : (groups : List Group) (files : List (ℕ × List ℕ)) (bytes : List ℕ) (report : Report) → All (λ job. reads.HasItsFile files job.line job.order) (jobs_of groups) → length (jobs_of groups) < 2 ^ 32
    → length bytes ≤ file_limit → IsInGrammar report → report_text report ≡ bytes → MayBeAudited groups files report
may_be_audited groups files bytes report are few short good text =
    let lines = few_lines report good in
    let same : length (report_text report) ≡ length bytes = ap (λ (l : List ℕ). length l) text in
    record { files_are = are; grammar = good; jobs = few; lines = omega (arith, lines, same, short) }

pub judged : (groups : List Group) (files : List (ℕ × List ℕ)) (bytes : List ℕ) (report : Report) (verdict : Verdict) → IsInGrammar report → report_text report ≡ bytes → IsVerdict groups files report verdict → IsJudged groups files bytes verdict
judged groups files bytes report (Holds events searches) good text is = record { of = report; is = record { text_is = text; is = is.0 }; events_is = is.1; searches_is = is.2 }
judged groups files bytes report (Differs line) good text first = inr (record { report = report; in_grammar = good; text_is = text; first = first })
