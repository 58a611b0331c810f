-- The laws without premises on what else there is.
use Rattle.std.proofs.Common.{ℕ, List}
use Rattle.script_text.specs.declared.script.Group.{Group}
use Rattle.report_text.specs.declared.report.Report.{Report}
use Rattle.report_rules.specs.Reports.{IsReport}
use Rattle.report_rules.specs.Faults.{IsFirstFault}
use Rattle.report_rules.proofs.OneHits.{one_hits}
use Rattle.report_rules.proofs.OneQueries.{one_query_outcome}
use Rattle.report_rules.proofs.Refuted.{no_fault}

pub no_line : (script : List Group) (files : List (ℕ × List ℕ)) (report : Report) (line : ℕ)
    → IsReport script files report.shape report.budget report → IsFirstFault script files report line → ⊥
no_line script files report line is fault = no_fault one_query_outcome one_hits script files report line is fault
