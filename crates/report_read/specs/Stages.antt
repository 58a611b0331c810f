-- How far a report is read, line by line (this project's own).
use Rattle.std.specs.Prelude.{ℕ, ◌+◌, List, [], ◌∷◌, ◌++◌, length, Option, None, Some, ◌==◌, ◌&&◌, nat_lt}
use Rattle.std.specs.Prelude.{if◌then◌else◌}
use Rattle.std.specs.List.{flat_map}
use Rattle.htss_defs.specs.declared.history.Hit.{Hit}
use Rattle.htss_defs.specs.declared.shape.Shape.{Shape}
use Rattle.report_text.specs.ReportText.{published_count}
use Rattle.report_text.specs.declared.report.Report.{Report}
use Rattle.report_text.specs.declared.report.Block.{Block}
use Rattle.report_text.specs.declared.report.Block.TheVariants.{Load as LoadBlock, Withdraw as WithdrawBlock}
use Rattle.report_text.specs.declared.report.Block.TheVariants.{Search as SearchBlock}
use Rattle.report_text.specs.declared.report.LoadLine.{LoadLine}
use Rattle.report_text.specs.declared.report.LogLine.{LogLine}
use Rattle.report_text.specs.declared.report.SearchLine.TheVariants.{Hits, OverBudget as Over, Refused}
use Rattle.report_lines.specs.declared.line.Line.{Line}
use Rattle.report_lines.specs.declared.line.Line.TheVariants.{Header, Load, Answer, Loaded, Withdraw, Search, NotRead}
use Rattle.report_lines.specs.declared.line.Line.TheVariants.{OneHit, HitsEnd, OverBudget, Log, Event, End}
use Rattle.report_read.specs.ReportLines.{answer_lines, block_lines, event_lines, hit_lines, report_lines}

-- what the header said, and the blocks that are whole
pub record Begun : Type 0 where
  pub shape : Shape
  pub budget : ℕ
  pub blocks : List Block

-- nothing is read; a block or the log may begin; within a load, a search or the log; the report is whole
pub data Stage : Type 0 where
  Fresh : Stage
  Between : Begun → Stage
  Loading : Begun → ℕ → List ℕ → List LoadLine → Stage
  Searching : Begun → ℕ → List ℕ → ℕ → List Hit → Stage
  Logging : Begun → ℕ → List LogLine → Stage
  Ended : Report → Stage

-- ---- one line more

abbrev pub with_block : Begun → Block → Stage
with_block begun block =
    Between (record { shape = begun.shape; budget = begun.budget; blocks = begun.blocks ++ block ∷ [] })

abbrev pub after_fresh : Line → Option Stage
after_fresh (Header shape budget) = Some (Between (record { shape = shape; budget = budget; blocks = [] }))
after_fresh _ = None

abbrev pub after_block : Begun → Line → Option Stage
after_block begun (Load line file) = Some (Loading begun line file [])
after_block begun (Withdraw line number answer) = Some (with_block begun (WithdrawBlock line number answer))
after_block begun (Search line file at) = Some (Searching begun line file at [])
after_block begun (NotRead line file at code) = Some (with_block begun (SearchBlock line file (Refused at code)))
after_block begun (Log count) = Some (Logging begun count [])
after_block begun _ = None

abbrev pub after_answer : Begun → ℕ → List ℕ → List LoadLine → Line → Option Stage
after_answer begun line file answers (Answer answer) = Some (Loading begun line file (answers ++ answer ∷ []))
after_answer begun line file answers (Loaded count) = if count == published_count answers then Some
    (with_block begun (LoadBlock line file answers)) else None
after_answer begun line file answers _ = None

abbrev pub after_hit : Begun → ℕ → List ℕ → ℕ → List Hit → Line → Option Stage
after_hit begun line file at hits (OneHit hit) = Some (Searching begun line file at (hits ++ hit ∷ []))
after_hit begun line file at hits (HitsEnd count rows records) =
    if count == length hits then Some (with_block begun (SearchBlock line file (Hits at hits rows records))) else None
after_hit begun line file at hits (OverBudget budget) =
    if length hits == 0 then Some (with_block begun (SearchBlock line file (Over at budget))) else None
after_hit begun line file at hits _ = None

abbrev pub whole_report : Begun → List LogLine → Report
whole_report begun events =
    record { shape = begun.shape; budget = begun.budget; blocks = begun.blocks; events = events }

abbrev pub after_event : Begun → ℕ → List LogLine → Line → Option Stage
after_event begun count events (Event number event) = if nat_lt (length events) count
    && (number == length events + 1) then Some (Logging begun count (events ++ event ∷ [])) else None
after_event begun count events End = if length events == count then Some (Ended (whole_report begun events)) else None
after_event begun count events _ = None

-- the stage after this line, unless no report has it there
abbrev pub step : Stage → Line → Option Stage
step Fresh line = after_fresh line
step (Between begun) line = after_block begun line
step (Loading begun at file answers) line = after_answer begun at file answers line
step (Searching begun at file mark hits) line = after_hit begun at file mark hits line
step (Logging begun count events) line = after_event begun count events line
step (Ended report) line = None

-- ---- the lines that were read

abbrev pub begun_lines : Begun → List Line
begun_lines begun = Header begun.shape begun.budget ∷ flat_map block_lines begun.blocks

abbrev pub lines_to : Stage → List Line
lines_to Fresh = []
lines_to (Between begun) = begun_lines begun
lines_to (Loading begun line file answers) = begun_lines begun ++ Load line file ∷ answer_lines answers
lines_to (Searching begun line file at hits) = begun_lines begun ++ Search line file at ∷ hit_lines hits
lines_to (Logging begun count events) = begun_lines begun ++ Log count ∷ event_lines 1 events
lines_to (Ended report) = report_lines report
