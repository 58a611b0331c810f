-- What an audit finds.
use Rattle.std.specs.Prelude.{◌≡◌, ℕ, ◌^◌, ◌<◌, List, length, map, All, sum_by}
use Rattle.std.specs.List.{AllZip, flat_map}
use Rattle.htss_defs.specs.Molecule.{Molecule}
use Rattle.htss_defs.specs.declared.shape.Shape.{Shape}
use Rattle.script_text.specs.declared.script.Group.{Group}
use Rattle.script_text.specs.declared.script.Job.{Job}
use Rattle.report_text.specs.declared.report.Report.{Report}
use Rattle.report_text.specs.Values.{IsInGrammar}
use Rattle.report_rules.specs.Dealing.{dealt}
use Rattle.report_rules.specs.Faults.{AreNamed, IsFirstFault, line_of_event}
use Rattle.report_rules.specs.Reports.{IsReport}
use Rattle.report_audit.specs.declared.verdict.Verdict.{Verdict}
use Rattle.report_audit.specs.declared.verdict.Verdict.TheVariants.{Holds, Differs}
use Rattle.told_history.specs.declared.jobs.LaidJob.{LaidJob}
use Rattle.told_history.specs.declared.names.Namer.{Namer}
use Rattle.told_history.specs.declared.reads.JobRead.{JobRead}
use Rattle.told_history.specs.LaidJobs.{dealt_by, searches_of}
use Rattle.told_history.specs.Named.{IsTable}
use Rattle.told_history.specs.Reads.{HasItsFile, IsReadOf}

abbrev pub jobs_in : List Group → List Job
jobs_in script = flat_map (λ group. group.jobs) script

-- each job of the script has its file; the values of the report are in their ranges; and jobs and lines are few enough
-- to be counted
pub record MayBeAudited (script : List Group) (files : List (ℕ × List ℕ)) (report : Report) : Type 0 where
  pub files_are : All (λ job. HasItsFile files job.line job.order) (jobs_in script)
  pub grammar : IsInGrammar report
  pub jobs : length (jobs_in script) < 2 ^ 32
  pub lines : line_of_event report (length report.events) < 2 ^ 64

-- the jobs of the script, what their files were read as, and for each event what the blocks name it by
pub record IsCase (script : List Group) (files : List (ℕ × List ℕ)) (report : Report) (jobs : List LaidJob)
    (reads : List JobRead) (table : List Namer) : Type 0 where
  pub jobs_are : (shape : Shape) → map (dealt_by shape) jobs ≡ dealt shape 1 script
  pub reads_are : AllZip (IsReadOf files) jobs reads
  pub named : List (ℕ × Molecule)
  pub are_named : AreNamed files (dealt report.shape 1 script) report.blocks named
  pub table_is : IsTable named table

-- the report is one of its own log, with so many events, and the script has so many searches; or this line is the first
-- at fault
abbrev pub IsVerdict : List Group → List (ℕ × List ℕ) → Report → Verdict → Type 0
IsVerdict script files report (Holds events searches) =
    IsReport script files report.shape report.budget report × (events ≡ length report.events)
    × (searches ≡ sum_by (λ group. searches_of group.jobs) script)
IsVerdict script files report (Differs line) = IsFirstFault script files report line
