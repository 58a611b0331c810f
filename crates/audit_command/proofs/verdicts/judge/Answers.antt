use Rattle.std.proofs.Common.{inl, arith}
use Rattle.std.proofs.lemmas.Result.{IfOk-weaker}
use Rattle.report_read.proofs.Cuts.{few_cut}
use Rattle.audit_command.proofs.Judging.{judged, may_be_audited}
use Rattle.audit_command.proofs.verdicts.judge.Goals as goal

pub read_report-requires : goal.read_report-requires
read_report-requires c = let few = few_cut c.args.bytes.now in omega (arith, few, c.requires.bytes)

pub audit_report-requires : goal.audit_report-requires
audit_report-requires c =
    let read = rw c.in-Ok.is at c.in_ok-read.ensures.report in
    may_be_audited c.args.script.now.groups c.args.files.now c.args.bytes.now c.in-Ok.report c.requires.files c.requires.jobs c.requires.bytes read.0 read.1

pub returns-in-Ok : goal.returns-in-Ok
returns-in-Ok c =
    let read = rw c.in-Ok.is at c.in_ok-read.ensures.report in
    IfOk-weaker c.audit_report.result _ _ (λ verdict is. judged c.args.script.now.groups c.args.files.now c.args.bytes.now c.in-Ok.report verdict read.0 read.1 is) c.audit_report.ensures

pub returns-in-Err : goal.returns-in-Err
returns-in-Err c = inl (rw c.in-Err.is at c.in_ok-read.ensures.refused)
