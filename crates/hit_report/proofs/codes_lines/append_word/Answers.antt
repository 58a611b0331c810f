use Rattle.std.proofs.Common.{arith}
use Rattle.hit_report.proofs.Fronts.{front_trans}
use Rattle.hit_report.proofs.Digits.{digits_more, digits_all}
use Rattle.hit_report.proofs.codes_lines.append_word.Goals as goal

pub loop-index-preserved : goal.loop-index-preserved
loop-index-preserved c = record {
  digits = digits_more c.args.word c.loop-index.index c.hex_digit_before.result _ _ _ c.loop-index.invariant.digits c.hex_digit_before.ensures c.in_ok-append_bytes-2.ensures.ok;
  front = front_trans c.loop-index.invariant.front c.in_ok-append_bytes-2.ensures.front;
}

pub returns-clause-ok : goal.returns-clause-ok
returns-clause-ok c =
    digits_all c.args.word c.loop-index.index c.args.text.now.items _ _ (omega (arith, c.loop-index-test.false, c.loop-index.auto.index-end)) c.in_ok-append_bytes.ensures.ok c.loop-index.invariant.digits
