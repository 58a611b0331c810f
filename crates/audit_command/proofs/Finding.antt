-- What an audit finds, and where it stops, by the files that were read.
use Rattle.std.proofs.Common.{◌≡◌, inr, ℕ, List, [], ◌∷◌, refl, ap, subst, ◌∙◌}
use Rattle.std.specs.Prelude.{All, Option}
use Rattle.std.proofs.lemmas.List.Elements.{All-cons, All-nil}
use Rattle.script_text.specs.declared.script.Group.{Group}
use Rattle.report_audit.specs.declared.verdict.Verdict.{Verdict}
use Rattle.report_audit.specs.declared.verdict.Verdict.TheVariants.{Holds, Differs}
use Rattle.outside.specs.Files.{File, WasRead}
use Rattle.command_words.specs.Tasks.{audit_of}
use Rattle.command_ends.specs.Outcomes.{Why}
use Rattle.command_ends.specs.AuditText.{ReadsAfterScript, audit_line}
use Rattle.command_ends.specs.RunText.{AreFilesOf, CanBeRead, ScriptWasRead, files_named, jobs_of}
use Rattle.command_ends.specs.Ends.{MayStop, ShelfGoesOn, ShelfSeen}
use Rattle.command_ends.specs.Stops.{IsStopOfFile}
use Rattle.command_ends.proofs.Causes.{IsStopOfFile-earlier, MayStop-of-file}
use Rattle.script_files.specs.JobFiles.{StopsAmong}
use Rattle.audit_command.specs.Findings.{IsFinding, IsJudged}

pub finding : (told : Option (List File)) (script report : List ℕ) (groups : List Group) (bytes : List ℕ) (files : List (ℕ × List ℕ)) (verdict : Verdict) → ScriptWasRead told script groups → WasRead told report bytes
    → AreFilesOf told files (jobs_of groups) → IsJudged groups files bytes verdict → IsFinding told script report verdict
finding told script report groups bytes files (Holds events searches) read was are held = record {
  groups = groups;
  bytes = bytes;
  files = files;
  was_read = record { script_read = read; report_read = was; files_read = are };
  of = held.of;
  is = held.is;
  text_is = ap (λ n. audit_line n searches) held.events_is ∙ ap (audit_line _) held.searches_is;
}
finding told script report groups bytes files (Differs line) read was are first =
    record { groups = groups; bytes = bytes; files = files; was_read = record { script_read = read; report_read = was; files_read = are }; first = first }

-- the report could not be read
pub stops_at_report : (script report : List ℕ) (groups : List Group) (before now : ShelfSeen) (why : Why) → ScriptWasRead before.told script groups → IsStopOfFile before now report why → MayStop (audit_of script report) before now [] why
stops_at_report script report groups before now why read stop =
    let reads : ReadsAfterScript before.told script report report = record {
      groups = groups;
      script_read = read;
      earlier = [];
      later = files_named (jobs_of groups);
      named = refl;
      were_read = All-nil (CanBeRead before.told);
    } in
    MayStop-of-file (audit_of script report) before now [] report why (refl, inr reads) refl stop

-- a file of a job could not be read, and the report was
pub stops_in_files : (script report : List ℕ) (groups : List Group) (before middle now : ShelfSeen) (why : Why) → ScriptWasRead before.told script groups → CanBeRead before.told report → ShelfGoesOn before middle
    → StopsAmong middle now (jobs_of groups) why → MayStop (audit_of script report) before now [] why
stops_in_files script report groups before middle now why read can on stops =
    let reads : ReadsAfterScript before.told script report stops.name = record {
      groups = groups;
      script_read = read;
      earlier = report ∷ stops.earlier;
      later = stops.later;
      named = ap (λ l. report ∷ l) stops.named;
      were_read = All-cons (CanBeRead before.told) report stops.earlier can (subst (λ told. All (CanBeRead told) stops.earlier) on.told stops.were_read);
    } in
    MayStop-of-file (audit_of script report) before now [] stops.name why (refl, inr reads) refl (IsStopOfFile-earlier before middle now stops.name why on stops.stop)
