-- The text of `audit`, from the bytes of its files (this project's own).
use Rattle.std.specs.Prelude.{◌≡◌, ◌⊎◌, ℕ, List, [], ◌∷◌, ◌++◌, length, sum_by, All, Option, Some}
use lib.Chars.{codes}
use Rattle.hit_report.specs.RecordLines.{spaced}
use Rattle.script_text.specs.declared.script.Group.{Group}
use Rattle.report_text.specs.declared.report.Report.{Report}
use Rattle.report_text.specs.ReportText.{report_text}
use Rattle.report_text.specs.Values.{IsInGrammar}
use Rattle.report_read.specs.Faults as text
use Rattle.report_rules.specs.Dealing.{searches_in}
use Rattle.report_rules.specs.Reports.{IsReport}
use Rattle.report_rules.specs.Faults as rules
use Rattle.outside.specs.Files.{File, WasRead}
use Rattle.command_ends.specs.RunText.{AreFilesOf, CanBeRead, ScriptWasRead, files_named, jobs_of}

-- ---- what the audit reads

-- the script and the report were read, and all files of the script's jobs: the groups, the bytes of the report, and
-- those of the files by their lines
pub record AuditWasRead (told : Option (List File)) (script report : List ℕ) (groups : List Group) (bytes : List ℕ)
    (files : List (ℕ × List ℕ)) : Type 0 where
  pub script_read : ScriptWasRead told script groups
  pub report_read : WasRead told report bytes
  pub files_read : AreFilesOf told files (jobs_of groups)

-- after the script it comes to read this file: the report first, then the files of the jobs in the order of their lines
pub record ReadsAfterScript (told : Option (List File)) (script report : List ℕ) (name : List ℕ) : Type 0 where
  pub groups : List Group
  pub script_read : ScriptWasRead told script groups
  pub earlier : List (List ℕ)
  pub later : List (List ℕ)
  pub named : report ∷ files_named (jobs_of groups) ≡ earlier ++ name ∷ later
  pub were_read : All (CanBeRead told) earlier

-- the audit comes to read this file
abbrev pub AuditReads : Option (List File) → List ℕ → List ℕ → List ℕ → Type 0
AuditReads told script report name = (name ≡ script) ⊎ ReadsAfterScript told script report name

-- ---- what it finds

-- the bytes are the text of this report, which is one of its own log
pub record IsReportText (groups : List Group) (files : List (ℕ × List ℕ)) (bytes : List ℕ)
    (report : Report) : Type 0 where
  pub text_is : report_text report ≡ bytes
  pub is : IsReport groups files report.shape report.budget report

-- the bytes are the text of a report, of which this line is the first that breaks a rule
pub record BreaksRule (groups : List Group) (files : List (ℕ × List ℕ)) (bytes : List ℕ) (line : ℕ) : Type 0 where
  pub report : Report
  pub in_grammar : IsInGrammar report
  pub text_is : report_text report ≡ bytes
  pub first : rules.IsFirstFault groups files report line

-- the line is the first at fault: the bytes leave off there to be the text of a report, or it is the first that breaks
-- a rule
abbrev pub IsFirstAtFault : List Group → List (ℕ × List ℕ) → List ℕ → ℕ → Type 0
IsFirstAtFault groups files bytes line = text.IsFirstFault (text.cut_lines bytes) line
    ⊎ BreaksRule groups files bytes line

-- ---- its text

-- how many of the jobs are searches
abbrev pub searches_of : List Group → ℕ
searches_of groups = sum_by (λ group. sum_by (λ job. searches_in job.order) group.jobs) groups

abbrev pub audit_line : ℕ → ℕ → List ℕ
audit_line events searches = codes "audit" ++ spaced events ++ codes " events" ++ spaced searches ++ codes " searches"
    ++ 10 ∷ []

-- at status 0: the report is one of its own log
pub record IsAuditText (told : Option (List File)) (script report : List ℕ) (text : List ℕ) : Type 0 where
  pub groups : List Group
  pub bytes : List ℕ
  pub files : List (ℕ × List ℕ)
  pub was_read : AuditWasRead told script report groups bytes files
  pub of : Report
  pub is : IsReportText groups files bytes of
  pub text_is : text ≡ audit_line (length of.events) (searches_of groups)

-- at status 1: it differs at this line
pub record DiffersAt (told : Option (List File)) (script report : List ℕ) (line : ℕ) : Type 0 where
  pub groups : List Group
  pub bytes : List ℕ
  pub files : List (ℕ × List ℕ)
  pub was_read : AuditWasRead told script report groups bytes files
  pub first : IsFirstAtFault groups files bytes line
