-- What a report of its own log is (this project's own).
use Rattle.std.specs.Prelude.{◌≡◌, ℕ, ◌≤◌, List, ◌∷◌, ◌++◌, length, map, All, Contains, Option, Some, None, Ok, Err}
use Rattle.std.specs.List.{flat_map}
use Rattle.htss_defs.specs.declared.history.Event.{Event}
use Rattle.htss_defs.specs.declared.history.Event.TheVariants.{Publish, Withdraw}
use Rattle.htss_defs.specs.declared.shape.Shape.{Shape}
use Rattle.htss_defs.specs.Shapes.{IsShape}
use Rattle.htss_defs.specs.History.{IsLegal}
use Rattle.ctfile.specs.RecordList.{IsRecordList}
use Rattle.query_mol.specs.QueryOutcome.{IsFirstQueryOutcome}
use Rattle.script_text.specs.declared.script.Group.{Group}
use Rattle.script_text.specs.declared.script.Order.{Order}
use Rattle.script_text.specs.declared.script.Order.TheVariants as order
use Rattle.script_text.specs.FilesByLine.{bytes_at}
use Rattle.report_text.specs.declared.report.Block.{Block}
use Rattle.report_text.specs.declared.report.Report.{Report}
use Rattle.report_text.specs.Values.{IsInGrammar}
use Rattle.report_text.specs.declared.report.LogLine.{LogLine}
use Rattle.report_text.specs.declared.report.LogLine.TheVariants as log
use Rattle.report_rules.specs.Answers.{JobAnswer, loaded, withdrew, searched, SearchAnswer, not_read, hits_at, over_at}
use Rattle.report_rules.specs.Answers.{answers_of, block_of, outcome_of, own_number}
use Rattle.report_rules.specs.Dealing.{Dealt, dealt}
use Rattle.report_rules.specs.Rules.{Line, KeepsRule}

-- the line of the log that tells an event
abbrev pub log_line : Event → LogLine
log_line (Publish caller name mol) = log.Publish caller (length mol.atoms) (length mol.bonds) name
log_line (Withdraw caller number) = log.Withdraw caller number

-- the loader that an event names is one of the shape's
abbrev pub IsByItsLoader : Shape → Event → Type 0
IsByItsLoader shape (Publish caller name mol) = (1 ≤ caller) × (caller ≤ shape.loaders)
IsByItsLoader shape (Withdraw caller number) = (1 ≤ caller) × (caller ≤ shape.loaders)

-- a job that is done, and what it answers
pub record Done : Type 0 where
  pub dealt : Dealt
  pub answer : JobAnswer

abbrev pub done_block : Done → Block
done_block done = block_of done.dealt.job.line done.answer

abbrev pub done_lines : Done → List Line
done_lines done = map (λ answer. record { group = done.dealt.group; caller = done.dealt.caller; answer = answer })
    (answers_of done.answer)

-- the budget of a search that has this one of its own, or none
abbrev pub budget_or : ℕ → Option ℕ → ℕ
budget_or budget None = budget
budget_or budget (Some own) = own

-- the file's query is refused so, or read so and searched for under this budget
abbrev pub IsSearchFor : List ℕ → ℕ → SearchAnswer → Type 0
IsSearchFor bytes budget (not_read line code) = IsFirstQueryOutcome bytes (Err (record { line = line; code = code }))
IsSearchFor bytes budget (hits_at asked own front hits rows records) = IsFirstQueryOutcome bytes (Ok asked)
    × (own ≡ budget)
IsSearchFor bytes budget (over_at asked own front) = IsFirstQueryOutcome bytes (Ok asked) × (own ≡ budget)

-- the answer is one to the order: to each record of its file in turn, or to the query of its file
abbrev pub IsAnswerTo : Option (List ℕ) → ℕ → Order → JobAnswer → Type 0
IsAnswerTo (Some bytes) budget (order.Load file) (loaded named answers) = (named ≡ file)
    × IsRecordList bytes (map outcome_of answers)
IsAnswerTo bytes budget (order.Withdraw number) (withdrew named answer) = named ≡ number
IsAnswerTo (Some bytes) budget (order.Search file own) (searched named answer) = (named ≡ file)
    × IsSearchFor bytes (budget_or budget own) answer
IsAnswerTo _ budget _ _ = ⊥

-- the same by the files of the script's lines
abbrev pub IsByItsFile : List (ℕ × List ℕ) → ℕ → Done → Type 0
IsByItsFile files budget done = IsAnswerTo (bytes_at files done.dealt.job.line) budget done.dealt.job.order done.answer

-- the blocks tell of this history: each job of the script has one, in order, each line keeps its rule, and each event
-- is named by one
pub record IsToldBy (script : List Group) (files : List (ℕ × List ℕ)) (shape : Shape) (budget : ℕ)
    (history : List Event) (blocks : List Block) : Type 0 where
  pub done : List Done
  pub jobs : map (λ one. one.dealt) done ≡ dealt shape 1 script
  pub by_files : All (IsByItsFile files budget) done
  pub blocks_are : blocks ≡ map done_block done
  pub rules : (earlier later : List Line) (line : Line) → flat_map done_lines done ≡ earlier ++ line ∷ later
      → KeepsRule shape history earlier line
  pub named : (number : ℕ) → 1 ≤ number → number ≤ length history
      → Contains (flat_map (λ line. own_number line.answer) (flat_map done_lines done)) number

-- the report is one of its own log, for the script, the files of its lines, the shape and the budget
pub record IsReport (script : List Group) (files : List (ℕ × List ℕ)) (shape : Shape) (budget : ℕ)
    (report : Report) : Type 0 where
  pub in_grammar : IsInGrammar report
  pub in_limits : IsShape shape
  pub shape_is : report.shape ≡ shape
  pub budget_is : report.budget ≡ budget
  pub history : List Event
  pub within : length history ≤ shape.log
  pub legal : IsLegal history
  pub loaders : All (IsByItsLoader shape) history
  pub log : report.events ≡ map log_line history
  pub told : IsToldBy script files shape budget history report.blocks
