-- The lines of a report, one by one (this project's own).
use Rattle.std.specs.Prelude.{ℕ, List, [], ◌∷◌, ◌++◌}
use lib.Chars.{codes}
use Rattle.htss_defs.specs.FileName.{IsFileName}
use Rattle.hit_report.specs.HitLines.{hit_line, overbudget_line}
use Rattle.report_text.specs.ReportText.{event_line, front_text, header_text, hits_end, job_text, load_line}
use Rattle.report_text.specs.ReportText.{loaded_line, log_count_line, refused_part, withdraw_text}
use Rattle.report_text.specs.Values.{AreShapeNumbers, IsHitLine, IsLoadLine, IsLogLine, IsRefusal, IsU32, IsU64}
use Rattle.report_text.specs.Values.{IsWithdrawLine}
use Rattle.report_lines.specs.declared.line.Line.{Line}
use Rattle.report_lines.specs.declared.line.Line.TheVariants.{Header, Load, Answer, Loaded, Withdraw, Search, NotRead}
use Rattle.report_lines.specs.declared.line.Line.TheVariants.{OneHit, HitsEnd, OverBudget, Log, Event, End}

-- the line with its LF
abbrev pub line_text : Line → List ℕ
line_text (Header shape budget) = header_text shape budget
line_text (Load line file) = job_text (codes "load") line file ++ 10 ∷ []
line_text (Answer answer) = load_line answer
line_text (Loaded count) = loaded_line count
line_text (Withdraw line number answer) = withdraw_text line number answer
line_text (Search line file front) = job_text (codes "search") line file ++ front_text front
line_text (NotRead line file at code) = job_text (codes "search") line file ++ refused_part at code
line_text (OneHit hit) = hit_line hit
line_text (HitsEnd count rows records) = hits_end count rows records
line_text (OverBudget budget) = overbudget_line budget
line_text (Log count) = log_count_line count
line_text (Event number event) = event_line number event
line_text End = codes "end" ++ 10 ∷ []

-- each value of the line is in its range
abbrev pub IsLine : Line → Type 0
IsLine (Header shape budget) = AreShapeNumbers shape × IsU64 budget
IsLine (Load line file) = IsU32 line × IsFileName file
IsLine (Answer answer) = IsLoadLine answer
IsLine (Loaded count) = IsU32 count
IsLine (Withdraw line number answer) = IsU32 line × IsU32 number × IsWithdrawLine answer
IsLine (Search line file front) = IsU32 line × IsFileName file × IsU32 front
IsLine (NotRead line file at code) = IsU32 line × IsFileName file × IsRefusal at code
IsLine (OneHit hit) = IsHitLine hit
IsLine (HitsEnd count rows records) = IsU32 count × IsU64 rows × IsU32 records
IsLine (OverBudget budget) = IsU64 budget
IsLine (Log count) = IsU32 count
IsLine (Event number event) = IsU32 number × IsLogLine event
IsLine End = Unit {0}
