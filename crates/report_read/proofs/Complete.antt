-- The text of a report is read as that report and no other.
use Rattle.std.proofs.Common.{◌≡◌, ℕ, List, refl, sym, ap, ◌∙◌}
use Rattle.std.specs.Prelude.{Option, Some, Result, Ok, Err, IfOk, IfErr, map}
use Rattle.report_text.specs.ReportText.{report_text}
use Rattle.report_text.specs.declared.report.Report.{Report}
use Rattle.report_lines.specs.Lines.{line_text}
use Rattle.report_text.specs.Values.{IsInGrammar}
use Rattle.report_lines.specs.declared.line.Line.{Line}
use Rattle.report_read.specs.declared.reader.ReportRefusal.{ReportRefusal}
use Rattle.report_read.specs.Faults.{IsFirstFault, cut_lines}
use Rattle.report_read.specs.ReportLines.{report_lines}
use Rattle.report_read.specs.Runs.{run}
use Rattle.report_read.specs.Stages.{Stage, Fresh, Ended}
use Rattle.report_read.proofs.Cuts.{cut_report}
use Rattle.report_read.proofs.FirstFaults.{unspelled}
use Rattle.report_read.proofs.Ranges.{report_good}
use Rattle.report_read.proofs.Running.{run_report}

-- the text of a report is nowhere at fault
pub no_fault : (report : Report) (number : ℕ) → IsInGrammar report → IsFirstFault (cut_lines (report_text report)) number → ⊥
no_fault report number good fault = fault.here report (good, refl) refl

-- no two reports have the same text
pub one_report : (a b : Report) → IsInGrammar a → IsInGrammar b → report_text a ≡ report_text b → a ≡ b
one_report a b is_a is_b same =
    let texts : map line_text (report_lines a) ≡ map line_text (report_lines b) = sym (cut_report a is_a) ∙ ap cut_lines same ∙ cut_report b is_b in
    let lines = unspelled (report_lines a) (report_lines b) (report_good a is_a) (report_good b is_b) texts in
    let ends : Some (Ended a) ≡ Some (Ended b) = sym (run_report a) ∙ ap (λ (l : List Line). run l (Some Fresh)) lines ∙ run_report b in
    cc

-- what keeps the clauses of the reader is this report, where the bytes are its text
pub reads_back : (report : Report) (bytes : List ℕ) (read : Result Report ReportRefusal) → IsInGrammar report → report_text report ≡ bytes
    → IfOk read (λ one. IsInGrammar one × (report_text one ≡ bytes))
    → IfErr read (λ refusal. IsFirstFault (cut_lines bytes) refusal.line)
    → read ≡ Ok report
reads_back report bytes (Ok one) good text whole refused = ap (λ (r : Report). (let told : Result Report ReportRefusal = Ok r in told)) (one_report one report whole.0 good (whole.1 ∙ sym text))
reads_back report bytes (Err refusal) good text whole refused =
    absurd (no_fault report refusal.line good (rw (sym text) at refused))
