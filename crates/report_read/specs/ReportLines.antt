-- A report, line by line (this project's own).
use Rattle.std.specs.Prelude.{ℕ, ◌+◌, List, [], ◌∷◌, ◌++◌, length, map}
use Rattle.std.specs.List.{flat_map}
use Rattle.htss_defs.specs.declared.history.Hit.{Hit}
use Rattle.report_text.specs.ReportText.{published_count}
use Rattle.report_text.specs.declared.report.Report.{Report}
use Rattle.report_text.specs.declared.report.Block.{Block}
use Rattle.report_text.specs.declared.report.Block.TheVariants.{Load as LoadBlock, Withdraw as WithdrawBlock}
use Rattle.report_text.specs.declared.report.Block.TheVariants.{Search as SearchBlock}
use Rattle.report_text.specs.declared.report.LoadLine.{LoadLine}
use Rattle.report_text.specs.declared.report.LogLine.{LogLine}
use Rattle.report_text.specs.declared.report.SearchLine.{SearchLine}
use Rattle.report_text.specs.declared.report.SearchLine.TheVariants.{Hits, OverBudget as Over, Refused}
use Rattle.report_lines.specs.declared.line.Line.{Line}
use Rattle.report_lines.specs.declared.line.Line.TheVariants.{Header, Load, Answer, Loaded, Withdraw, Search, NotRead}
use Rattle.report_lines.specs.declared.line.Line.TheVariants.{OneHit, HitsEnd, OverBudget, Log, Event, End}

abbrev pub hit_lines : List Hit → List Line
hit_lines hits = map (λ hit. OneHit hit) hits

abbrev pub answer_lines : List LoadLine → List Line
answer_lines answers = map (λ answer. Answer answer) answers

abbrev pub search_lines : ℕ → List ℕ → SearchLine → List Line
search_lines line file (Hits front hits rows records) = Search line file front
    ∷ (hit_lines hits ++ HitsEnd (length hits) rows records ∷ [])
search_lines line file (Over front budget) = Search line file front ∷ OverBudget budget ∷ []
search_lines line file (Refused at code) = NotRead line file at code ∷ []

-- the lines of a block
abbrev pub block_lines : Block → List Line
block_lines (LoadBlock line file answers) =
    Load line file ∷ (answer_lines answers ++ Loaded (published_count answers) ∷ [])
block_lines (WithdrawBlock line number answer) = Withdraw line number answer ∷ []
block_lines (SearchBlock line file answer) = search_lines line file answer

-- the lines of events that are numbered from this number on
abbrev pub event_lines : ℕ → List LogLine → List Line
event_lines number [] = []
event_lines number (event ∷ events) = Event number event ∷ event_lines (number + 1) events

-- the lines of a report, whose texts one after the other are its text
abbrev pub report_lines : Report → List Line
report_lines report = Header report.shape report.budget
    ∷ (flat_map block_lines report.blocks ++ Log (length report.events) ∷ (event_lines 1 report.events ++ End ∷ []))
