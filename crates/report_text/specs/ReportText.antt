-- The text of a report of a registry (this project's own).
use Rattle.std.specs.Prelude.{ℕ, ◌+◌, List, [], ◌∷◌, ◌++◌, Bool, true, false, length}
use Rattle.std.specs.List.{count_by, flat_map}
use lib.Chars.{codes}
use Rattle.htss_defs.specs.declared.history.Hit.{Hit}
use Rattle.htss_defs.specs.declared.shape.Shape.{Shape}
use Rattle.hit_report.specs.HitLines.{hit_line, name_text, overbudget_line}
use Rattle.hit_report.specs.RecordLines.{refusal_text, refused_line, spaced}
use Rattle.report_text.specs.declared.report.Report.{Report}
use Rattle.report_text.specs.declared.report.Block.{Block}
use Rattle.report_text.specs.declared.report.Block.TheVariants.{Load, Withdraw, Search}
use Rattle.report_text.specs.declared.report.LoadLine.{LoadLine}
use Rattle.report_text.specs.declared.report.LoadLine.TheVariants.{Published, Refused, DataFull, NoPage, ChainFull}
use Rattle.report_text.specs.declared.report.LoadLine.TheVariants.{LogFull}
use Rattle.report_text.specs.declared.report.WithdrawLine.{WithdrawLine}
use Rattle.report_text.specs.declared.report.WithdrawLine.TheVariants.{At, Unknown, Gone, LogFull as NoEntry}
use Rattle.report_text.specs.declared.report.SearchLine.{SearchLine}
use Rattle.report_text.specs.declared.report.SearchLine.TheVariants.{Hits, OverBudget, Refused as QueryRefused}
use Rattle.report_text.specs.declared.report.LogLine.{LogLine}
use Rattle.report_text.specs.declared.report.LogLine.TheVariants.{Publish, Withdraw as Withdrawn}

-- the first line
unfoldable pub callers_text : Shape → List ℕ
callers_text shape = codes " loaders" ++ spaced shape.loaders ++ codes " searchers" ++ spaced shape.searchers
    ++ codes " pages" ++ spaced shape.pages

unfoldable pub sizes_text : Shape → List ℕ
sizes_text shape = codes " room" ++ spaced shape.room ++ codes " log" ++ spaced shape.log ++ codes " chain"
    ++ spaced shape.chain

unfoldable pub header_text : Shape → ℕ → List ℕ
header_text shape budget = codes "htss 1" ++ callers_text shape ++ sizes_text shape ++ codes " budget" ++ spaced budget
    ++ 10 ∷ []

-- what a job with a file begins with
unfoldable pub job_text : List ℕ → ℕ → List ℕ → List ℕ
job_text word line file = word ++ spaced line ++ 32 ∷ file

-- the lines of a load
unfoldable pub published_line : ℕ → List ℕ → List ℕ
published_line number name = codes "published" ++ spaced number ++ name_text name ++ 10 ∷ []

unfoldable pub unpublished_part : ℕ → List ℕ
unpublished_part place = codes "unpublished" ++ spaced place

unfoldable pub data_full_line : ℕ → ℕ → ℕ → List ℕ
data_full_line place left need = unpublished_part place ++ codes " DataFull" ++ spaced left ++ spaced need ++ 10 ∷ []

unfoldable pub no_page_line : ℕ → List ℕ
no_page_line place = unpublished_part place ++ codes " NoPage" ++ 10 ∷ []

unfoldable pub full_line : ℕ → List ℕ → ℕ → List ℕ
full_line place cause number = unpublished_part place ++ cause ++ spaced number ++ 10 ∷ []

unfoldable pub loaded_line : ℕ → List ℕ
loaded_line count = codes "loaded" ++ spaced count ++ 10 ∷ []

abbrev pub load_line : LoadLine → List ℕ
load_line (Published number name) = published_line number name
load_line (Refused place line code) = refused_line place line code
load_line (DataFull place left need) = data_full_line place left need
load_line (NoPage place) = no_page_line place
load_line (ChainFull place pages) = full_line place (codes " ChainFull") pages
load_line (LogFull place front) = full_line place (codes " LogFull") front

abbrev pub is_published : LoadLine → Bool
is_published (Published number name) = true
is_published (Refused place line code) = false
is_published (DataFull place left need) = false
is_published (NoPage place) = false
is_published (ChainFull place pages) = false
is_published (LogFull place front) = false

-- how many of the lines tell of a publication
abbrev pub published_count : List LoadLine → ℕ
published_count answers = count_by is_published answers

unfoldable pub load_text : ℕ → List ℕ → List LoadLine → List ℕ
load_text line file answers = job_text (codes "load") line file ++ 10 ∷ [] ++ flat_map load_line answers
    ++ loaded_line (published_count answers)

-- the line of a withdrawal
abbrev pub withdraw_line : WithdrawLine → List ℕ
withdraw_line (At event) = codes " at" ++ spaced event
withdraw_line (Unknown front) = codes " Unknown" ++ spaced front
withdraw_line (Gone at) = codes " Gone" ++ spaced at
withdraw_line (NoEntry front) = codes " LogFull" ++ spaced front

unfoldable pub withdraw_text : ℕ → ℕ → WithdrawLine → List ℕ
withdraw_text line number answer = codes "withdraw" ++ spaced line ++ spaced number ++ withdraw_line answer ++ 10 ∷ []

-- the lines of a search: what follows on the name of the file
unfoldable pub front_text : ℕ → List ℕ
front_text front = codes " front" ++ spaced front ++ 10 ∷ []

unfoldable pub hits_end : ℕ → ℕ → ℕ → List ℕ
hits_end count rows records = codes "hits" ++ spaced count ++ codes " rows" ++ spaced rows ++ codes " records"
    ++ spaced records ++ 10 ∷ []

unfoldable pub hits_part : ℕ → List Hit → ℕ → ℕ → List ℕ
hits_part front hits rows records = front_text front ++ flat_map hit_line hits ++ hits_end (length hits) rows records

unfoldable pub over_part : ℕ → ℕ → List ℕ
over_part front budget = front_text front ++ overbudget_line budget

unfoldable pub refused_part : ℕ → ℕ → List ℕ
refused_part line code = codes " refused" ++ refusal_text line code

abbrev pub search_part : SearchLine → List ℕ
search_part (Hits front hits rows records) = hits_part front hits rows records
search_part (OverBudget front budget) = over_part front budget
search_part (QueryRefused line code) = refused_part line code

unfoldable pub search_text : ℕ → List ℕ → SearchLine → List ℕ
search_text line file answer = job_text (codes "search") line file ++ search_part answer

-- the block of a job
abbrev pub block_text : Block → List ℕ
block_text (Load line file answers) = load_text line file answers
block_text (Withdraw line number answer) = withdraw_text line number answer
block_text (Search line file answer) = search_text line file answer

-- the log: what follows on the number of an event
unfoldable pub publish_part : ℕ → ℕ → ℕ → List ℕ → List ℕ
publish_part loader atoms bonds name = codes " publish" ++ spaced loader ++ spaced atoms ++ spaced bonds
    ++ name_text name

unfoldable pub withdraw_part : ℕ → ℕ → List ℕ
withdraw_part loader number = codes " withdraw" ++ spaced loader ++ spaced number

abbrev pub event_part : LogLine → List ℕ
event_part (Publish loader atoms bonds name) = publish_part loader atoms bonds name
event_part (Withdrawn loader number) = withdraw_part loader number

unfoldable pub event_line : ℕ → LogLine → List ℕ
event_line number event = codes "event" ++ spaced number ++ event_part event ++ 10 ∷ []

-- the lines of events that are numbered from this number on
abbrev pub events_from : ℕ → List LogLine → List ℕ
events_from number [] = []
events_from number (event ∷ events) = event_line number event ++ events_from (number + 1) events

unfoldable pub log_count_line : ℕ → List ℕ
log_count_line count = codes "log" ++ spaced count ++ 10 ∷ []

-- the log and the last line
unfoldable pub log_text : List LogLine → List ℕ
log_text events = log_count_line (length events) ++ events_from 1 events ++ codes "end" ++ 10 ∷ []

-- the whole report
unfoldable pub report_text : Report → List ℕ
report_text report = header_text report.shape report.budget ++ flat_map block_text report.blocks
    ++ log_text report.events
