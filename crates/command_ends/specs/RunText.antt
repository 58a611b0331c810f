-- The text of `run`, whole and as far as it came (this project's own).
use Rattle.std.specs.Prelude.{◌≡◌, ◌⊎◌, ℕ, List, [], ◌∷◌, ◌++◌, All, Option, Some}
use Rattle.std.specs.List.{flat_map}
use Rattle.htss_defs.specs.declared.shape.Shape.{Shape}
use Rattle.mol_section.specs.Lines.{lines_of}
use Rattle.script_text.specs.declared.script.Job.{Job}
use Rattle.script_text.specs.declared.script.Group.{Group}
use Rattle.script_text.specs.declared.script.Order.{Order}
use Rattle.script_text.specs.declared.script.Order.TheVariants.{Load, Withdraw, Search}
use Rattle.script_text.specs.Scripts.{IsFirstFault, IsScriptOf}
use Rattle.script_text.specs.FilesByLine.{bytes_at}
use Rattle.report_text.specs.declared.report.Report.{Report}
use Rattle.report_text.specs.ReportText.{block_text, header_text, report_text}
use Rattle.report_rules.specs.Reports.{IsReport}
use Rattle.outside.specs.Files.{File, WasRead}

-- ---- the script

-- the file was read, and is a script of these groups
pub record ScriptWasRead (told : Option (List File)) (name : List ℕ) (groups : List Group) : Type 0 where
  pub bytes : List ℕ
  pub read : WasRead told name bytes
  pub is : IsScriptOf (lines_of bytes) (record { groups = groups })

-- the file was read, and this is the first line at fault
pub record ScriptIsFaulty (told : Option (List File)) (name : List ℕ) (line : ℕ) : Type 0 where
  pub bytes : List ℕ
  pub read : WasRead told name bytes
  pub first : IsFirstFault (lines_of bytes) line

-- ---- its files

-- the file that an order names, if any
abbrev pub file_named : Order → List (List ℕ)
file_named (Load file) = file ∷ []
file_named (Withdraw number) = []
file_named (Search file budget) = file ∷ []

-- the names of the files of jobs, in the order of reading
abbrev pub files_named : List Job → List (List ℕ)
files_named jobs = flat_map (λ job. file_named job.order) jobs

-- the file was read, whatever its bytes
abbrev pub CanBeRead : Option (List File) → List ℕ → Type 0
CanBeRead told name = (bytes : List ℕ) × WasRead told name bytes

-- the file of this name was read, and these are its bytes by the line
abbrev pub IsFileOf : Option (List File) → List (ℕ × List ℕ) → ℕ → List ℕ → Type 0
IsFileOf told files line name = (bytes : List ℕ) × (bytes_at files line ≡ Some bytes) × WasRead told name bytes

-- by the job's line these are the bytes of its file, if it has one
abbrev pub HasItsFile : Option (List File) → List (ℕ × List ℕ) → Job → Type 0
HasItsFile told files job = All (IsFileOf told files job.line) (file_named job.order)

-- the same for each of the jobs
abbrev pub AreFilesOf : Option (List File) → List (ℕ × List ℕ) → List Job → Type 0
AreFilesOf told files jobs = All (HasItsFile told files) jobs

abbrev pub jobs_of : List Group → List Job
jobs_of groups = flat_map (λ group. group.jobs) groups

-- ---- the text

-- the text is a report of its own log for the script, its files, the shape and the budget
pub record IsRunText (told : Option (List File)) (script : List ℕ) (shape : Shape) (budget : ℕ)
    (text : List ℕ) : Type 0 where
  pub groups : List Group
  pub script_read : ScriptWasRead told script groups
  pub files : List (ℕ × List ℕ)
  pub files_read : AreFilesOf told files (jobs_of groups)
  pub report : Report
  pub is_report : IsReport groups files shape budget report
  pub text_is : text ≡ report_text report

-- the first line and the blocks of these groups: with the log of the events that they name they are a report of its own
-- log
pub record IsRunFront (told : Option (List File)) (groups : List Group) (shape : Shape) (budget : ℕ)
    (front : List ℕ) : Type 0 where
  pub files : List (ℕ × List ℕ)
  pub files_read : AreFilesOf told files (jobs_of groups)
  pub report : Report
  pub is_report : IsReport groups files shape budget report
  pub front_is : front ≡ header_text shape budget ++ flat_map block_text report.blocks

-- the text before a group of which a file is read: nothing, where no group has begun
abbrev pub IsTextBefore : Option (List File) → List Group → Shape → ℕ → List ℕ → Type 0
IsTextBefore told [] shape budget front = front ≡ []
IsTextBefore told (group ∷ groups) shape budget front = IsRunFront told (group ∷ groups) shape budget front

-- the run comes to read this file of a job: the groups before are done, and the files of the group that stand before it
-- were read
pub record ReadsFileOfJob (told : Option (List File)) (script : List ℕ) (shape : Shape) (budget : ℕ)
    (front name : List ℕ) : Type 0 where
  pub before : List Group
  pub group : Group
  pub after : List Group
  pub script_read : ScriptWasRead told script (before ++ group ∷ after)
  pub earlier : List (List ℕ)
  pub later : List (List ℕ)
  pub named : files_named group.jobs ≡ earlier ++ name ∷ later
  pub were_read : All (CanBeRead told) earlier
  pub front_is : IsTextBefore told before shape budget front

-- the run comes to read this file: its script, or a file of a job
abbrev pub RunReads : Option (List File) → List ℕ → Shape → ℕ → List ℕ → List ℕ → Type 0
RunReads told script shape budget front name = ((front ≡ []) × (name ≡ script))
    ⊎ ReadsFileOfJob told script shape budget front name

-- the script was read, and this is the first line with the blocks of its first groups: of none, of some or of all
pub record HasRunTo (told : Option (List File)) (script : List ℕ) (shape : Shape) (budget : ℕ)
    (front : List ℕ) : Type 0 where
  pub before : List Group
  pub after : List Group
  pub script_read : ScriptWasRead told script (before ++ after)
  pub front_is : IsRunFront told before shape budget front

-- what there may be of the text where memory runs out: nothing; or, where the script was read, the first line and the
-- blocks of its first groups, however many these are: none, some or all
abbrev pub IsRunFrontAtAnyTime : Option (List File) → List ℕ → Shape → ℕ → List ℕ → Type 0
IsRunFrontAtAnyTime told script shape budget front = (front ≡ []) ⊎ HasRunTo told script shape budget front
