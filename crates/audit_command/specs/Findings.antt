-- What an audit finds, by the bytes of its files.
use Rattle.std.specs.Prelude.{◌≡◌, ℕ, List, length, Option}
use Rattle.script_text.specs.declared.script.Group.{Group}
use Rattle.report_text.specs.declared.report.Report.{Report}
use Rattle.report_audit.specs.declared.verdict.Verdict.{Verdict}
use Rattle.report_audit.specs.declared.verdict.Verdict.TheVariants.{Holds, Differs}
use Rattle.outside.specs.Files.{File}
use Rattle.command_ends.specs.AuditText.{DiffersAt, IsAuditText, IsFirstAtFault, IsReportText, audit_line, searches_of}

-- the bytes are a report of its own log with so many events, and the script has so many searches
pub record IsHeld (groups : List Group) (files : List (ℕ × List ℕ)) (bytes : List ℕ)
    (events searches : ℕ) : Type 0 where
  pub of : Report
  pub is : IsReportText groups files bytes of
  pub events_is : events ≡ length of.events
  pub searches_is : searches ≡ searches_of groups

-- the verdict on the bytes of a report
abbrev pub IsJudged : List Group → List (ℕ × List ℕ) → List ℕ → Verdict → Type 0
IsJudged groups files bytes (Holds events searches) = IsHeld groups files bytes events searches
IsJudged groups files bytes (Differs line) = IsFirstAtFault groups files bytes line

-- the verdict on the files of these names
abbrev pub IsFinding : Option (List File) → List ℕ → List ℕ → Verdict → Type 0
IsFinding told script report (Holds events searches) = IsAuditText told script report (audit_line events searches)
IsFinding told script report (Differs line) = DiffersAt told script report line
