-- What the calls of a job need of their caller, what they leave of it, and what they answer.
use Rattle.std.specs.Prelude.{◌≡◌, ◌⊎◌, ℕ, ◌≤◌, List, [], length, map, Bool}
use Rattle.htss_defs.specs.declared.record.NamedMol.{NamedMol}
use Rattle.htss_defs.specs.declared.shape.Shape.{Shape}
use Rattle.htss_defs.specs.QueryGraph.{QueryGraph}
use Rattle.ctfile.specs.RecordList.{IsRecordList}
use Rattle.ctfile.specs.Stream.{HasRead, ReaderState}
use Rattle.script_text.specs.declared.script.Order.{Order}
use Rattle.script_text.specs.declared.script.Order.TheVariants.{Load, Withdraw, Search}
use Rattle.report_text.specs.declared.report.LoadLine.{LoadLine}
use Rattle.report_text.specs.declared.report.LoadLine.TheVariants as line
use Rattle.report_text.specs.declared.report.WithdrawLine.{WithdrawLine}
use Rattle.report_text.specs.declared.report.SearchLine.{SearchLine}
use Rattle.report_text.specs.declared.report.SearchLine.TheVariants.{Hits, OverBudget, Refused}
use Rattle.report_rules.specs.Answers.{Answer, to_record, to_search, to_withdrawal, Fate, RecordAnswer, taken}
use Rattle.report_rules.specs.Answers.{SearchAnswer, not_read, hits_at, over_at}
use Rattle.report_rules.specs.Answers.{fate_line, outcome_of, record_lines, search_line}
use Rattle.report_rules.specs.Dealing.{Caller}
use Rattle.report_rules.specs.Reports.{IsSearchFor}
use Rattle.board_core.specs.declared.account.Account.{Account}
use Rattle.board.specs.Seated.{Place, Seated, IsOf, IsLoader}
use Rattle.loader.specs.declared.stages.StageError.{StageError}
use Rattle.loader.specs.declared.stages.StageError.TheVariants.{DataFull, NoPage, ChainFull}
use Rattle.board_jobs.specs.Telling.{search_entries}
use Rattle.board_jobs.specs.Answering.{who_of, IsAnswered, AreAnswered}
use Rattle.board_jobs.specs.Jobs.{IsReady, IsQuietOrFor, AreFirstRecords}

-- one of the board's callers, ready for a call
pub record IsAtWork (b : Place) (c : Seated) : Type 0 where
  pub of : IsOf b c
  pub ready : IsReady c

-- loads and withdrawals are a loader's
abbrev pub IsOrderOf : Seated → Order → Type 0
IsOrderOf c (Load file) = IsLoader c
IsOrderOf c (Withdraw number) = IsLoader c
IsOrderOf c (Search file budget) = Unit {0}

-- the caller is ready again, and went on by answers, if by any
pub record GoesOn (b : Place) (old new : Seated) : Type 0 where
  pub work : IsAtWork b new
  pub who : new.account.who ≡ old.account.who
  pub answers : (c : Caller) → who_of c ≡ old.account.who → (answers : List Answer)
      × AreAnswered b.shape c old.account new.account answers

-- the caller has given this answer
abbrev pub Answers : Shape → Account → Account → Answer → Type 0
Answers k a b answer = (c : Caller) → who_of c ≡ a.who → IsAnswered k c a b answer

-- the line of a record that was not staged
abbrev pub refused_line : ℕ → StageError → LoadLine
refused_line place (DataFull left need) = line.DataFull place left need
refused_line place NoPage = line.NoPage place
refused_line place (ChainFull pages) = line.ChainFull place pages

-- a record is taken, and answered so
pub record IsTaken (k : Shape) (a b : Account) (place : ℕ) (one : NamedMol) (line : LoadLine) : Type 0 where
  pub fate : Fate
  pub line_is : line ≡ fate_line place one.name fate
  pub answers : Answers k a b (to_record (taken one fate))

-- the records read so far are answered with these lines
pub record AreLoaded (k : Shape) (a b : Account) (stream : List ℕ) (reader : ReaderState)
    (lines : List LoadLine) : Type 0 where
  pub records : List RecordAnswer
  pub read : HasRead stream (map outcome_of records) reader
  pub lines_are : lines ≡ record_lines 1 records
  pub who : b.who ≡ a.who
  pub answers : (c : Caller) → who_of c ≡ a.who → AreAnswered k c a b (map to_record records)

-- memory ran out: the first records of the stream are answered, as a reader has read them, which was told that it is
-- over or not
pub record HaveBegun (k : Shape) (a b : Account) (stream : List ℕ) (over : Bool) : Type 0 where
  pub records : List RecordAnswer
  pub reader : ReaderState
  pub told : reader.finished ≡ over
  pub read : HasRead stream (map outcome_of records) reader
  pub answers : (c : Caller) → who_of c ≡ a.who → AreAnswered k c a b (map to_record records)

-- memory ran out: the first records of the file are answered
pub record IsBegun (k : Shape) (a b : Account) (bytes : List ℕ) : Type 0 where
  pub records : List RecordAnswer
  pub first : AreFirstRecords bytes records
  pub answers : (c : Caller) → who_of c ≡ a.who → AreAnswered k c a b (map to_record records)

-- all records of the file are answered with these lines
pub record IsLoaded (k : Shape) (a b : Account) (bytes : List ℕ) (lines : List LoadLine) : Type 0 where
  pub records : List RecordAnswer
  pub are_all : IsRecordList bytes (map outcome_of records)
  pub lines_are : lines ≡ record_lines 1 records
  pub answers : (c : Caller) → who_of c ≡ a.who → AreAnswered k c a b (map to_record records)

-- the withdrawal of a number is answered so
pub record IsWithdrawal (k : Shape) (a b : Account) (number : ℕ) (line : WithdrawLine) : Type 0 where
  pub answers : Answers k a b (to_withdrawal number line)

-- the line tells what a search for the query finds under the budget
abbrev pub TellsReply : Shape → Account → Account → QueryGraph → ℕ → SearchLine → Type 0
TellsReply k a b query budget (Hits front hits rows records) =
    Answers k a b (to_search (hits_at query budget front hits rows records))
TellsReply k a b query budget (OverBudget front own) = (own ≡ budget)
    × Answers k a b (to_search (over_at query own front))
TellsReply k a b query budget (Refused line code) = ⊥

-- the search for the query of a file is answered so
pub record IsSearched (k : Shape) (a b : Account) (bytes : List ℕ) (budget : ℕ) (line : SearchLine) : Type 0 where
  pub answer : SearchAnswer
  pub searched : IsSearchFor bytes budget answer
  pub line_is : line ≡ search_line answer
  pub answers : Answers k a b (to_search answer)

-- the answer is one to this query under this budget
abbrev pub IsOfQuery : QueryGraph → ℕ → SearchAnswer → Type 0
IsOfQuery query budget (not_read line code) = ⊥
IsOfQuery query budget (hits_at asked own front hits rows records) = (asked ≡ query) × (own ≡ budget)
IsOfQuery query budget (over_at asked own front) = (asked ≡ query) × (own ≡ budget)

-- memory ran out in a search: it was answered, or no entry was added
pub record QueryBroke (k : Shape) (a b : Account) (query : QueryGraph) (budget : ℕ) : Type 0 where
  pub answer : SearchAnswer
  pub said : (search_entries answer ≡ []) ⊎ IsOfQuery query budget answer
  pub answers : Answers k a b (to_search answer)

-- the same by the query of a file
pub record SearchBroke (k : Shape) (a b : Account) (bytes : List ℕ) (budget : ℕ) : Type 0 where
  pub answer : SearchAnswer
  pub said : IsQuietOrFor bytes budget answer
  pub answers : Answers k a b (to_search answer)
