use Rattle.std.proofs.Common.{◌≡◌, ℕ, ◌∙◌, List, All, length, map, ap, sym, subst, refl, arith}
use Rattle.script_text.specs.declared.script.Job.{Job}
use Rattle.report_rules.specs.Dealing.{dealt}
use Rattle.told_history.specs.declared.jobs.LaidJob.{LaidJob}
use Rattle.report_audit.specs.Audits.{jobs_in}
use Rattle.told_history.specs.LaidJobs.{job_of, searches_of}
use Rattle.told_history.specs.Reads.{HasItsFile, IsReadOf, IsThere}
use Rattle.report_audit.proofs.Auditing.{each_job, jobs_are, searches_are}
use Rattle.report_audit.proofs.Founds.{none_at, some_at}
use Rattle.std.proofs.lemmas.List.{length-map}
use Rattle.told_history.proofs.Markings.{table_marked}
use Rattle.report_audit.proofs.Verdicts.{case_of}
use Rattle.told_history.proofs.Zips.{zip_long}
use Rattle.report_audit.proofs.audit.audit_report.Goals as goal

pub read_jobs-requires : goal.read_jobs-requires
read_jobs-requires c =
    let laid = jobs_are c.args.report.now.shape c.in_ok-jobs.jobs.items c.as_slice.result.now (c.in_ok-jobs.ensures c.args.report.now.shape) in
    subst (All (IsThere c.args.files.now)) (sym c.deref.ensures.value)
    (each_job (λ (job : Job). HasItsFile c.args.files.now job.line job.order) c.in_ok-jobs.jobs.items (jobs_in c.args.script.now.groups) (laid ∙ ap jobs_in c.as_slice.ensures) c.requires.files_are)

pub first_fault-requires-clause-reads : goal.first_fault-requires-clause-reads
first_fault-requires-clause-reads c =
    ap length c.deref-5.ensures.value ∙ zip_long (IsReadOf c.args.files.now) c.deref.result.now c.in_ok-reads.reads.items c.in_ok-reads.ensures
    ∙ ap length (c.deref.ensures.value ∙ sym c.deref-4.ensures.value)

pub first_fault-requires-clause-marked : goal.first_fault-requires-clause-marked
first_fault-requires-clause-marked c =
    let case = case_of c.args.script.now.groups c.as_slice.result.now c.args.files.now c.args.report.now c.as_slice-blocks.result.now c.in_ok-jobs.jobs.items c.deref.result.now c.deref-2.result.now c.deref-4.result.now
    c.in_ok-reads.reads.items c.deref-3.result.now c.deref-5.result.now c.in_ok-table.table.items c.deref-6.result.now c.as_slice.ensures c.as_slice-blocks.ensures c.deref.ensures.value c.deref-2.ensures.value c.deref-4.ensures.value
    c.deref-3.ensures.value c.deref-5.ensures.value c.deref-6.ensures.value c.in_ok-jobs.ensures c.in_ok-reads.ensures (c.in_ok-table.ensures.named c.args.files.now c.args.report.now.shape) in
    table_marked c.args.files.now (dealt c.args.report.now.shape 1 c.args.script.now.groups) c.args.report.now.blocks case.named c.deref-6.result.now case.are_named case.table_is

pub returns-in-Some : goal.returns-in-Some
returns-in-Some c =
    let case = case_of c.args.script.now.groups c.as_slice.result.now c.args.files.now c.args.report.now c.as_slice-blocks.result.now c.in_ok-jobs.jobs.items c.deref.result.now c.deref-2.result.now c.deref-4.result.now
    c.in_ok-reads.reads.items c.deref-3.result.now c.deref-5.result.now c.in_ok-table.table.items c.deref-6.result.now c.as_slice.ensures c.as_slice-blocks.ensures c.deref.ensures.value c.deref-2.ensures.value c.deref-4.ensures.value
    c.deref-3.ensures.value c.deref-5.ensures.value c.deref-6.ensures.value c.in_ok-jobs.ensures c.in_ok-reads.ensures (c.in_ok-table.ensures.named c.args.files.now c.args.report.now.shape) in
    (some_at _ c.in-Some.line _ c.in-Some.is c.in_ok-line.ensures.fault) c.args.script.now.groups c.args.files.now case

pub searches_among-requires : goal.searches_among-requires
searches_among-requires c =
    let laid = jobs_are c.args.report.now.shape c.in_ok-jobs.jobs.items c.as_slice.result.now (c.in_ok-jobs.ensures c.args.report.now.shape) ∙ ap jobs_in c.as_slice.ensures in
    omega (arith, ap length c.deref-7.ensures.value, length-map c.in_ok-jobs.jobs.items job_of, ap length laid, c.requires.jobs)

pub returns : goal.returns
returns c =
    let case = case_of c.args.script.now.groups c.as_slice.result.now c.args.files.now c.args.report.now c.as_slice-blocks.result.now c.in_ok-jobs.jobs.items c.deref.result.now c.deref-2.result.now c.deref-4.result.now
    c.in_ok-reads.reads.items c.deref-3.result.now c.deref-5.result.now c.in_ok-table.table.items c.deref-6.result.now c.as_slice.ensures c.as_slice-blocks.ensures c.deref.ensures.value c.deref-2.ensures.value c.deref-4.ensures.value
    c.deref-3.ensures.value c.deref-5.ensures.value c.deref-6.ensures.value c.in_ok-jobs.ensures c.in_ok-reads.ensures (c.in_ok-table.ensures.named c.args.files.now c.args.report.now.shape) in
    let laid = jobs_are c.args.report.now.shape c.in_ok-jobs.jobs.items c.as_slice.result.now (c.in_ok-jobs.ensures c.args.report.now.shape) ∙ ap jobs_in c.as_slice.ensures in (
      (none_at _ _ c.in_default.is c.in_ok-line.ensures.none) c.args.script.now.groups c.args.files.now case c.requires.grammar,
      ap length c.as_slice-count.ensures,
      c.searches_among.ensures ∙ ap (λ (l : List LaidJob). searches_of (map job_of l)) c.deref-7.ensures.value ∙ ap searches_of laid ∙ searches_are c.args.script.now.groups,
    )
