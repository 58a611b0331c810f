-- A block that is checked, after those before it.
use Rattle.std.specs.Prelude.{◌≡◌, ℕ, ◌+◌, ◌<◌, ◌≤◌, List, ◌∷◌, ◌++◌, length, map, take, slice_get, Contains, Option}
use Rattle.std.specs.Prelude.{Some, None, Ok, Err}
use Rattle.std.specs.List.{AllZip, flat_map}
use Rattle.htss_defs.specs.QueryGraph.{QueryGraph}
use Rattle.htss_defs.specs.declared.shape.Shape.{Shape}
use Rattle.mol_section.specs.SectionRecord.{Outcome}
use Rattle.ctfile.specs.RecordList.{IsRecordList}
use Rattle.script_text.specs.declared.script.Group.{Group}
use Rattle.script_text.specs.declared.script.Job.{Job}
use Rattle.script_text.specs.FilesByLine.{bytes_at}
use Rattle.report_text.specs.declared.report.Block.{Block}
use Rattle.report_text.specs.declared.report.Block.TheVariants as block
use Rattle.report_text.specs.declared.report.LoadLine.{LoadLine}
use Rattle.report_text.specs.declared.report.SearchLine.{SearchLine}
use Rattle.report_text.specs.declared.report.WithdrawLine.{WithdrawLine}
use Rattle.report_rules.specs.Answers.{JobAnswer, RecordAnswer, block_of, outcome_of, record_lines}
use Rattle.report_rules.specs.Dealing.{Dealt, dealt}
use Rattle.report_rules.specs.Faults.{AreKept, IsBlockFault, IsBlockFor, IsLoadFault, Setting, answer_line, keeps}
use Rattle.report_rules.specs.Faults.{names, own_budget}
use Rattle.report_rules.specs.Reports.{Done, IsByItsFile, done_lines}
use Rattle.report_rules.specs.Rules.{Line}
use Rattle.told_history.specs.declared.reads.JobRead.{JobRead}
use Rattle.told_history.specs.declared.reads.JobRead.TheVariants.{Records, Asked, Nothing}
use Rattle.report_audit.specs.declared.so_far.SoFar.{SoFar}
use Rattle.report_audit.specs.declared.tally.Caller.{Caller}
use Rattle.told_history.specs.declared.told.Told.{Told}
use Rattle.report_audit.specs.declared.turns.Turns.{Turns}
use Rattle.told_history.specs.LaidJobs.{dealt_by}
use Rattle.report_audit.specs.LineChecks.{IsNextOf}
use Rattle.told_history.specs.Reads.{IsReadFor, IsReadOf}
use Rattle.report_audit.specs.SoFars.{IsSoFar}
use Rattle.told_history.specs.Telling.{Tells}

-- ---- the lines of a load

-- the first lines are those of the first records, answered so, and keep their rules
pub record AreLoaded (s : Setting) (earlier : List Line) (one : Dealt) (outcomes : List Outcome) (lines : List LoadLine)
    (before : List RecordAnswer) : Type 0 where
  pub records : map outcome_of before ≡ take (length before) outcomes
  pub lines_are : record_lines 1 before ≡ take (length before) lines
  pub rules : (first : List RecordAnswer) (answer : RecordAnswer) (rest : List RecordAnswer)
      → before ≡ first ++ answer ∷ rest
      → keeps s (earlier ++ map (answer_line one) first) (answer_line one answer)

-- so many lines of a load are kept, and what comes next is checked after them
pub record HasLoaded (told : Told) (so_far : SoFar) (caller : Caller) (s : Setting) (earlier : List Line) (one : Dealt)
    (outcomes : List Outcome) (lines : List LoadLine) (count : ℕ) : Type 0 where
  pub before : List RecordAnswer
  pub count_is : length before ≡ count
  pub loaded : AreLoaded s earlier one outcomes lines before
  pub next : IsNextOf told so_far caller s (earlier ++ map (answer_line one) before) one

-- ---- a block

-- the job whose block is next, what its file was read as, and what its lines are checked by
pub record IsTurnOf (told : Told) (so_far : SoFar) (caller : Caller) (read : JobRead) (s : Setting)
    (earlier : List Line) (one : Dealt) : Type 0 where
  pub read_is : IsReadFor (bytes_at s.files one.job.line) one.job.order read
  pub next : IsNextOf told so_far caller s earlier one

-- the query of the file, if it was read as one
abbrev pub query_in : JobRead → Option QueryGraph
query_in (Records records) = None
query_in (Asked (Ok query)) = Some query
query_in (Asked (Err refusal)) = None
query_in Nothing = None

-- the file was read as a query that is refused so
abbrev pub IsRefusedSo : JobRead → ℕ → ℕ → Type 0
IsRefusedSo (Records records) line code = ⊥
IsRefusedSo (Asked (Ok query)) line code = ⊥
IsRefusedSo (Asked (Err refusal)) line code = (refusal.line ≡ line) × (refusal.code ≡ code)
IsRefusedSo Nothing line code = ⊥

-- the block tells what the job answers, and its lines keep their rules
pub record IsKeptBlock (told : Told) (so_far : SoFar) (s : Setting) (earlier : List Line) (one : Dealt)
    (here : Block) : Type 0 where
  pub answer : JobAnswer
  pub block_is : here ≡ block_of one.job.line answer
  pub by_file : IsByItsFile s.files s.budget (record { dealt = one; answer = answer })
  pub rules : (first last : List Line) (line : Line) → done_lines (record { dealt = one; answer = answer }) ≡ first
      ++ line ∷ last
      → keeps s (earlier ++ first) line
  pub lines : IsSoFar (earlier ++ done_lines (record { dealt = one; answer = answer })) so_far
  pub long : length so_far.taken.items ≡ length told.lines.now
  pub group_is : one.group ≡ so_far.tally.group

-- ---- all blocks

-- so many blocks are kept, and what comes next is checked after them
pub record HasKept (told : Told) (so_far : SoFar) (s : Setting) (jobs : List Dealt) (blocks : List Block)
    (count : ℕ) : Type 0 where
  pub done : List Done
  pub count_is : length done ≡ count
  pub kept : AreKept s jobs blocks done
  pub lines : IsSoFar (flat_map done_lines done) so_far
  pub long : length so_far.taken.items ≡ length told.lines.now
  pub group_is : (one : Dealt) → slice_get jobs count ≡ Some one → so_far.tally.group ≤ one.group

-- the jobs with what their files were read as, and the blocks, are those of this setting for the script
pub record AreTurnsOf (told : Told) (turns : Turns) (script : List Group) (s : Setting) : Type 0 where
  pub shape_is : s.shape ≡ turns.shape
  pub budget_is : s.budget ≡ turns.budget
  pub events_are : s.events ≡ told.lines.now
  pub tells : Tells told s.history
  pub jobs_are : map (dealt_by s.shape) turns.jobs.now ≡ dealt s.shape 1 script
  pub reads_are : AllZip (IsReadOf s.files) turns.jobs.now turns.reads.now

-- the first block at fault is the one after so many, by so many lines after its first
pub record IsFaultAfter (s : Setting) (jobs : List Dealt) (blocks : List Block) (count offset : ℕ) : Type 0 where
  pub done : List Done
  pub count_is : length done ≡ count
  pub kept : AreKept s jobs blocks done
  pub here : IsBlockFault s (flat_map done_lines done) (slice_get jobs count) (slice_get blocks count) offset

-- all blocks are kept, and their lines name each event
pub record IsAllKept (s : Setting) (jobs : List Dealt) (blocks : List Block) : Type 0 where
  pub done : List Done
  pub kept : AreKept s jobs blocks done
  pub jobs_all : length done ≡ length jobs
  pub blocks_all : length done ≡ length blocks
  pub named : (number : ℕ) → 1 ≤ number → number ≤ length s.history → Contains (names done) number

-- ---- what the checks of blocks answer

-- the lines of a load are kept
abbrev pub AreKeptLines : Told → SoFar → SoFar → Shape → Caller → List Outcome → List LoadLine → Type 0
AreKeptLines told old new shape caller outcomes lines = (s : Setting) (earlier : List Line) (one : Dealt)
    → s.shape ≡ shape
    → IsNextOf told old caller s earlier one
    → HasLoaded told new caller s earlier one outcomes lines (length outcomes) × (length lines ≡ length outcomes)

-- one of them is at fault
abbrev pub IsFaultyLine : Told → SoFar → Shape → Caller → List Outcome → List LoadLine → ℕ → Type 0
IsFaultyLine told old shape caller outcomes lines offset = (s : Setting) (earlier : List Line) (one : Dealt)
    → s.shape ≡ shape
    → IsNextOf told old caller s earlier one
    → (at : ℕ) (bytes : List ℕ) → bytes_at s.files at ≡ Some bytes → IsRecordList bytes outcomes
    → IsLoadFault s earlier one at lines offset

-- the block of a search is kept, under this budget
abbrev pub IsKeptSearch : Told → SoFar → SoFar → Caller → ℕ → JobRead → SearchLine → Type 0
IsKeptSearch told old new caller budget read answer = (s : Setting) (earlier : List Line) (one : Dealt) (line : ℕ)
    (file : List ℕ)
    → own_budget s one.job.order ≡ budget
    → IsTurnOf told old caller read s earlier one
    → IsBlockFor one.job.line one.job.order (block.Search line file answer)
    → IsKeptBlock told new s earlier one (block.Search line file answer)

abbrev pub IsFaultySearch : Told → SoFar → Caller → ℕ → JobRead → SearchLine → ℕ → Type 0
IsFaultySearch told old caller budget read answer offset = (s : Setting) (earlier : List Line) (one : Dealt) (line : ℕ)
    (file : List ℕ)
    → own_budget s one.job.order ≡ budget
    → IsTurnOf told old caller read s earlier one
    → IsBlockFor one.job.line one.job.order (block.Search line file answer)
    → IsBlockFault s earlier (Some one) (Some (block.Search line file answer)) offset

-- the block of a withdrawal is kept
abbrev pub IsKeptWithdrawal : Told → SoFar → SoFar → Shape → Caller → ℕ → WithdrawLine → Type 0
IsKeptWithdrawal told old new shape caller number answer = (s : Setting) (earlier : List Line) (one : Dealt)
    (read : JobRead) (line : ℕ) → s.shape ≡ shape
    → IsTurnOf told old caller read s earlier one
    → IsBlockFor one.job.line one.job.order (block.Withdraw line number answer)
    → IsKeptBlock told new s earlier one (block.Withdraw line number answer)

abbrev pub IsFaultyWithdrawal : Told → SoFar → Shape → Caller → ℕ → WithdrawLine → ℕ → Type 0
IsFaultyWithdrawal told old shape caller number answer offset = (s : Setting) (earlier : List Line) (one : Dealt)
    (read : JobRead) (line : ℕ) → s.shape ≡ shape
    → IsTurnOf told old caller read s earlier one
    → IsBlockFault s earlier (Some one) (Some (block.Withdraw line number answer)) offset

-- the block at the place of this job is kept
abbrev pub IsKeptTurn : Told → SoFar → SoFar → Turns → Caller → Job → JobRead → Block → Type 0
IsKeptTurn told old new turns caller job read here = (s : Setting) (earlier : List Line) (one : Dealt)
    → s.shape ≡ turns.shape → s.budget ≡ turns.budget
    → one.job ≡ job
    → IsTurnOf told old caller read s earlier one → IsKeptBlock told new s earlier one here

abbrev pub IsFaultyTurn : Told → SoFar → Turns → Caller → Job → JobRead → Block → ℕ → Type 0
IsFaultyTurn told old turns caller job read here offset = (s : Setting) (earlier : List Line) (one : Dealt)
    → s.shape ≡ turns.shape
    → s.budget ≡ turns.budget → one.job ≡ job
    → IsTurnOf told old caller read s earlier one → IsBlockFault s earlier (Some one) (Some here) offset

-- the block after so many is kept
abbrev pub IsKeptNext : Told → SoFar → SoFar → Turns → ℕ → Type 0
IsKeptNext told old new turns index = (script : List Group) (s : Setting) → AreTurnsOf told turns script s
    → HasKept told old s (dealt s.shape 1 script) turns.blocks.now index
    → (index < length turns.jobs.now) × (index < length turns.blocks.now)
    × HasKept told new s (dealt s.shape 1 script) turns.blocks.now (index + 1)

abbrev pub IsFaultyNext : Told → SoFar → Turns → ℕ → ℕ → Type 0
IsFaultyNext told old turns index offset = (script : List Group) (s : Setting) → AreTurnsOf told turns script s
    → HasKept told old s (dealt s.shape 1 script) turns.blocks.now index
    → IsFaultAfter s (dealt s.shape 1 script) turns.blocks.now index offset
