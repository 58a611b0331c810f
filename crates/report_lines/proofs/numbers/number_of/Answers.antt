use Rattle.std.proofs.Common.{◌≡◌, ap, sym, ◌∙◌, arith}
use Rattle.std.specs.Prelude.{decimal}
use Rattle.report_lines.proofs.Numerals.{is_numeral, no_numeral, reads-decimal, reads-same, text_of-decimal}
use Rattle.report_lines.proofs.numbers.number_of.Goals as goal
use Rattle.report_lines.proofs.numbers.number_of.Goals.{else-number-most-via-then-number-most+else-is_written, else-number-most-via-else-number-most}

pub returns-in_default-clause-value : goal.returns-in_default-clause-value
returns-in_default-clause-value c = no_numeral c.args.most c.args.word.now
    (λ n small same. c.in_default.ensures.cases.0 (text_of-decimal c.args.word.now n (omega (arith, small, c.ranges.most.fits)) same))

pub returns-in_default-parse-clause-value : goal.returns-in_default-parse-clause-value
returns-in_default-parse-clause-value c = no_numeral c.args.most c.args.word.now (λ n small same. c.in_default-parse.not-Ok n
    (reads-decimal c.args.word.now c.in-Ok.text.now n c.parse.result (omega (arith, small, c.ranges.most.fits)) c.in-Ok.ensures.cases.0 same c.parse.ensures.value.0))

pub returns-then-is_written-clause-value : goal.returns-then-is_written-clause-value
returns-then-is_written-clause-value c = is_numeral c.args.most c.in-Ok-parse.number c.args.word.now (omega (arith, c.ranges.most.fits)) c.if-number-most.true
    (c.is_written.ensures.0 c.if-is_written.true)

pub returns-else-number-most-clause-value : goal.returns-else-number-most-clause-value
returns-else-number-most-clause-value c = no_numeral c.args.most c.args.word.now (λ n small same.
    let is : c.in-Ok-parse.number ≡ n = reads-same c.args.word.now c.in-Ok.text.now n c.in-Ok-parse.number c.parse.result (omega (arith, small, c.ranges.most.fits)) c.in-Ok.ensures.cases.0 same c.parse.ensures.value.0 c.in-Ok-parse.is in
    elim c.else-number-most.branch [
      | else-number-most-via-then-number-most+else-is_written w ↦ grind (arith, w.is_written.ensures.1 (same ∙ ap decimal (sym is)), w.if-is_written.false)
      | else-number-most-via-else-number-most w ↦ omega (arith, is, small, w.if-number-most.false)
    ])
