-- The lines of a report spell its text.
use Rattle.std.proofs.Common.{◌≡◌, ℕ, ◌+◌, List, [], ◌∷◌, ◌++◌, length, refl, ap, ◌∙◌, append_assoc}
use Rattle.std.specs.List.{flat_map}
use Rattle.std.proofs.lemmas.List.{append-nil}
use Rattle.std.proofs.lemmas.Grind.{flat_map-append}
use lib.Chars.{codes}
use Rattle.htss_defs.specs.declared.history.Hit.{Hit}
use Rattle.hit_report.specs.HitLines.{hit_line}
use Rattle.report_text.specs.ReportText.{block_text, events_from, front_text, header_text, hits_end, hits_part, job_text, load_line, load_text, loaded_line, log_count_line, log_text, over_part, published_count, refused_part, report_text, search_text, withdraw_text}
use Rattle.report_text.specs.declared.report.Report.{Report}
use Rattle.report_text.specs.declared.report.Block.{Block}
use Rattle.report_text.specs.declared.report.Block.TheVariants.{Load as LoadBlock, Withdraw as WithdrawBlock, Search as SearchBlock}
use Rattle.report_text.specs.declared.report.LoadLine.{LoadLine}
use Rattle.report_text.specs.declared.report.LogLine.{LogLine}
use Rattle.report_text.specs.declared.report.SearchLine.TheVariants.{Hits, OverBudget as Over, Refused}
use Rattle.report_lines.specs.Lines.{line_text}
use Rattle.report_lines.specs.declared.line.Line.{Line}
use Rattle.report_lines.specs.declared.line.Line.TheVariants.{Loaded, HitsEnd, Log, Event, End}
use Rattle.report_read.specs.ReportLines.{answer_lines, block_lines, event_lines, hit_lines, report_lines}

abbrev pub texts : List Line → List ℕ
texts lines = flat_map line_text lines

pub texts-append : (before after : List Line) → texts (before ++ after) ≡ texts before ++ texts after
texts-append before after = flat_map-append line_text before after

-- a line after these
pub texts_end : (lines : List Line) (line : Line) → texts (lines ++ line ∷ []) ≡ texts lines ++ line_text line
texts_end lines line = texts-append lines (line ∷ []) ∙ ap (λ (t : List ℕ). texts lines ++ t) (append-nil (line_text line))

texts_answers : (answers : List LoadLine) → texts (answer_lines answers) ≡ flat_map load_line answers
texts_answers [] = refl
texts_answers (answer ∷ answers) = ap (λ (t : List ℕ). load_line answer ++ t) (texts_answers answers)

texts_hits : (hits : List Hit) → texts (hit_lines hits) ≡ flat_map hit_line hits
texts_hits [] = refl
texts_hits (hit ∷ hits) = ap (λ (t : List ℕ). hit_line hit ++ t) (texts_hits hits)

texts_events : (number : ℕ) (events : List LogLine) → texts (event_lines number events) ≡ events_from number events
texts_events number [] = refl
texts_events number (event ∷ events) = ap (λ (t : List ℕ). line_text (Event number event) ++ t) (texts_events (number + 1) events)

texts_load : (line : ℕ) (file : List ℕ) (answers : List LoadLine) → texts (block_lines (LoadBlock line file answers)) ≡ load_text line file answers
unfolding load_text
texts_load line file answers =
    let job : List ℕ = job_text (codes "load") line file in
    ap (λ (t : List ℕ). (job ++ 10 ∷ []) ++ t) (texts_end (answer_lines answers) (Loaded (published_count answers)) ∙ ap (λ (t : List ℕ). t ++ loaded_line (published_count answers)) (texts_answers answers))
    ∙ simp append_assoc

texts_found : (line : ℕ) (file : List ℕ) (at : ℕ) (hits : List Hit) (rows records : ℕ) → texts (block_lines (SearchBlock line file (Hits at hits rows records))) ≡ search_text line file (Hits at hits rows records)
unfolding search_text hits_part
texts_found line file at hits rows records =
    let job : List ℕ = job_text (codes "search") line file in
    ap (λ (t : List ℕ). (job ++ front_text at) ++ t) (texts_end (hit_lines hits) (HitsEnd (length hits) rows records) ∙ ap (λ (t : List ℕ). t ++ hits_end (length hits) rows records) (texts_hits hits))
    ∙ simp append_assoc

texts_over : (line : ℕ) (file : List ℕ) (at budget : ℕ) → texts (block_lines (SearchBlock line file (Over at budget))) ≡ search_text line file (Over at budget)
unfolding search_text over_part
texts_over line file at budget = simp (append_assoc, append-nil)

texts_refused : (line : ℕ) (file : List ℕ) (at code : ℕ) → texts (block_lines (SearchBlock line file (Refused at code))) ≡ search_text line file (Refused at code)
unfolding search_text
texts_refused line file at code = append-nil (job_text (codes "search") line file ++ refused_part at code)

texts_block : (block : Block) → texts (block_lines block) ≡ block_text block
texts_block (LoadBlock line file answers) = texts_load line file answers
texts_block (WithdrawBlock line number answer) = append-nil (withdraw_text line number answer)
texts_block (SearchBlock line file (Hits at hits rows records)) = texts_found line file at hits rows records
texts_block (SearchBlock line file (Over at budget)) = texts_over line file at budget
texts_block (SearchBlock line file (Refused at code)) = texts_refused line file at code

texts_blocks : (blocks : List Block) → texts (flat_map block_lines blocks) ≡ flat_map block_text blocks
texts_blocks [] = refl
texts_blocks (block ∷ blocks) = texts-append (block_lines block) (flat_map block_lines blocks) ∙ ap (λ (t : List ℕ). t ++ texts (flat_map block_lines blocks)) (texts_block block) ∙ ap (λ (t : List ℕ). block_text block ++ t) (texts_blocks blocks)

texts_log : (events : List LogLine) → texts (Log (length events) ∷ (event_lines 1 events ++ End ∷ [])) ≡ log_text events
unfolding log_text
texts_log events = ap (λ (t : List ℕ). log_count_line (length events) ++ t) (texts_end (event_lines 1 events) End ∙ ap (λ (t : List ℕ). t ++ line_text End) (texts_events 1 events)) ∙ simp append_assoc

-- the texts of the lines, one after the other, are the text of the report
pub texts_report : (report : Report) → texts (report_lines report) ≡ report_text report
unfolding report_text
texts_report report =
    let log : List Line = Log (length report.events) ∷ (event_lines 1 report.events ++ End ∷ []) in
    ap (λ (t : List ℕ). header_text report.shape report.budget ++ t) (texts-append (flat_map block_lines report.blocks) log
    ∙ ap (λ (t : List ℕ). t ++ texts log) (texts_blocks report.blocks)
    ∙ ap (λ (t : List ℕ). flat_map block_text report.blocks ++ t) (texts_log report.events))
    ∙ simp append_assoc
