-- What a job needs, and what it does to its caller's account.
use Rattle.std.specs.Prelude.{◌≡◌, ◌⊎◌, ℕ, List, [], ◌∷◌, ◌++◌, map, true, Option, Some, IsSome}
use Rattle.htss_defs.specs.declared.shape.Shape.{Shape}
use Rattle.script_text.specs.declared.script.Job.{Job}
use Rattle.script_text.specs.declared.script.Order.{Order}
use Rattle.script_text.specs.declared.script.Order.TheVariants.{Load, Withdraw, Search}
use Rattle.script_text.specs.FilesByLine.{bytes_at}
use Rattle.report_text.specs.declared.report.Block.{Block}
use Rattle.ctfile.specs.Stream.{HasRead, ReaderState}
use Rattle.report_rules.specs.Answers.{Answer, JobAnswer, RecordAnswer, SearchAnswer, to_record, to_search, answers_of}
use Rattle.report_rules.specs.Answers.{block_of, outcome_of}
use Rattle.report_rules.specs.Dealing.{Caller, loader, searcher}
use Rattle.report_rules.specs.Reports.{IsAnswerTo, IsSearchFor, budget_or}
use Rattle.board_core.specs.declared.account.Account.{Account}
use Rattle.board_core.specs.declared.log.Holding.TheVariants.{Away}
use Rattle.board.specs.Seated.{Seated}
use Rattle.class_tree.specs.Inserting.{IsStocked}
use Rattle.board_jobs.specs.Telling.{search_entries}
use Rattle.board_jobs.specs.Answering.{AreAnswered}

-- the caller is without the lock, and unpinned, and keeps each own page for later
pub record IsReady (c : Seated) : Type 0 where
  pub free : c.account.log.holding ≡ Away
  pub unpinned : c.account.pool.announced ≡ 0
  pub stocked : IsStocked c

-- the job's file, if it has one, stands among the files under the job's line
abbrev pub IsThere : List (ℕ × List ℕ) → ℕ → Order → Type 0
IsThere files line (Load file) = IsSome (bytes_at files line)
IsThere files line (Withdraw number) = Unit {0}
IsThere files line (Search file budget) = IsSome (bytes_at files line)

-- loaders load and withdraw, searchers search
abbrev pub IsFor : Caller → Order → Type 0
IsFor (loader number) (Load file) = Unit {0}
IsFor (loader number) (Withdraw target) = Unit {0}
IsFor (loader number) (Search file budget) = ⊥
IsFor (searcher number) (Load file) = ⊥
IsFor (searcher number) (Withdraw target) = ⊥
IsFor (searcher number) (Search file budget) = Unit {0}

-- the job is answered with this block
pub record IsJobDone (k : Shape) (files : List (ℕ × List ℕ)) (budget : ℕ) (caller : Caller) (a b : Account) (job : Job)
    (block : Block) : Type 0 where
  pub answer : JobAnswer
  pub by_file : IsAnswerTo (bytes_at files job.line) budget job.order answer
  pub block_is : block ≡ block_of job.line answer
  pub answered : AreAnswered k caller a b (answers_of answer)

-- a reader has read these records from a front of the file, which is all of it where the reader was told that it is
-- over
abbrev pub AreFirstRecords : List ℕ → List RecordAnswer → Type 0
AreFirstRecords bytes records = (stream rest : List ℕ) × (reader : ReaderState) × (bytes ≡ stream ++ rest)
    × HasRead stream (map outcome_of records) reader
    × (reader.finished ≡ true → rest ≡ [])

-- it adds no entry, or is the answer for the query of the file
abbrev pub IsQuietOrFor : List ℕ → ℕ → SearchAnswer → Type 0
IsQuietOrFor bytes budget answer = (search_entries answer ≡ []) ⊎ IsSearchFor bytes budget answer

-- what a job may have answered when memory ran out in it: of a load, the first records of its file; of a search,
-- itself, or nothing that adds an entry. A withdrawal takes no memory
abbrev pub AreBegun : Option (List ℕ) → ℕ → Order → List Answer → Type 0
AreBegun (Some bytes) budget (Load file) answers = (records : List RecordAnswer) × AreFirstRecords bytes records
    × (answers ≡ map to_record records)
AreBegun (Some bytes) budget (Search file own) answers = (answer : SearchAnswer)
    × IsQuietOrFor bytes (budget_or budget own) answer × (answers ≡ to_search answer ∷ [])
AreBegun _ budget order answers = ⊥

-- memory ran out in the job, which had answered so far
pub record IsJobBroken (k : Shape) (files : List (ℕ × List ℕ)) (budget : ℕ) (caller : Caller) (a b : Account)
    (job : Job) : Type 0 where
  pub answers : List Answer
  pub begun : AreBegun (bytes_at files job.line) budget job.order answers
  pub answered : AreAnswered k caller a b answers
