use Rattle.std.proofs.Common.{◌≡◌, ◌∷◌, ◌++◌, []}
use Rattle.std.proofs.lemmas.Result.{IfOk-weaker}
use Rattle.report_lines.specs.Lines.{IsLine, line_text}
use Rattle.report_read.specs.StageOf.{maybe_stage, stage_of}
use Rattle.report_read.proofs.FirstFaults.{took}
use Rattle.report_read.proofs.reader.take_line.Goals as goal

pub returns-in-Some : goal.returns-in-Some
returns-in-Some c =
    let good = c.in_ok-line.ensures.some in
    let read : IsLine c.in-Some.line × (line_text c.in-Some.line ≡ c.args.text.now ++ 10 ∷ []) = rw c.in-Some.is at good in
    IfOk-weaker _ _ _ (λ next e. took (stage_of c.args.state) c.args.text.now c.in-Some.line read.0 read.1 (maybe_stage next) e) c.step.ensures
