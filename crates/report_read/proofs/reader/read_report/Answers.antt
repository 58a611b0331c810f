use Rattle.std.proofs.Common.{◌+◌, List, ℕ, arith, sym, subst}
use Rattle.std.proofs.lemmas.Result.{IfOk-weaker}
use Rattle.report_read.specs.Runs.{IsReadTo}
use Rattle.report_read.specs.StageOf.{stage_of}
use Rattle.report_read.proofs.FirstFaults.{answer_refused, answer_whole, few_lines, read_past, refused_at, tail}
use Rattle.report_read.specs.Faults.{IsFirstFault, cut_lines}
use Rattle.report_read.proofs.Complete.{no_fault, reads_back}
use Rattle.report_read.proofs.reader.read_report.Goals as goal

pub returns-in_default-2-clause-refused : goal.returns-in_default-2-clause-refused
returns-in_default-2-clause-refused c =
    let stop = rw c.in_default-2.is at c.in_ok-next.ensures in
    refused_at c.args.bytes.now c.loop-end.rest.now c.loop-end.number (stage_of c.loop-end.state) c.loop-end.invariant c.requires c.in-Some.end c.in-Some.ensures stop

pub overflow_add-number : goal.overflow_add-number
overflow_add-number c =
    let few = few_lines c.args.bytes.now c.loop-end.rest.now c.loop-end.number (stage_of c.loop-end.state) c.loop-end.invariant c.requires in
    omega (arith, few, c.loop-end.invariant.counted)

pub loop-end-preserved : goal.loop-end-preserved
loop-end-preserved c =
    let one = rw c.in-Some-2.is at c.in_ok-next.ensures in
    subst (λ (r : List ℕ). IsReadTo c.args.bytes.now r (c.loop-end.number + 1) (stage_of c.in-Some-2.next)) (sym (tail (c.in-Some.end + 1) c.loop-end.rest.now))
    (read_past c.args.bytes.now c.loop-end.rest.now c.loop-end.number (stage_of c.loop-end.state) (stage_of c.in-Some-2.next) c.loop-end.invariant c.requires c.in-Some.end c.in-Some.ensures one)

pub returns-clause-report : goal.returns-clause-report
returns-clause-report c =
    IfOk-weaker _ _ _ (λ report whole. answer_whole c.args.bytes.now c.loop-end.rest.now c.loop-end.number (stage_of c.loop-end.state) c.loop-end.invariant report whole.0 whole.1) c.finish.ensures.whole

pub returns-clause-refused : goal.returns-clause-refused
returns-clause-refused c =
    let none = rw c.in_default.is at c.memchr.ensures in
    answer_refused c.args.bytes.now c.loop-end.rest.now c.loop-end.number (stage_of c.loop-end.state) c.loop-end.invariant c.requires none c.finish.result c.finish.ensures.cut c.finish.ensures.short

pub returns-in_default-2-clause-back : goal.returns-in_default-2-clause-back
returns-in_default-2-clause-back c = λ report good text.
    absurd (no_fault report c.loop-end.number good (subst (λ (bytes : List ℕ). IsFirstFault (cut_lines bytes) c.loop-end.number) (sym text) (returns-in_default-2-clause-refused c)))

pub returns-clause-back : goal.returns-clause-back
returns-clause-back c = λ report good text.
    reads_back report c.args.bytes.now c.finish.result good text (returns-clause-report c) (returns-clause-refused c)
