use Rattle.std.proofs.Common.{◌≡◌, ◌++◌, ◌-◌}
use Rattle.std.specs.Prelude.{map}
use Rattle.std.specs.List.{range_with_len}
use Rattle.hit_report.specs.Appends.{KeepsFront}
use Rattle.hit_report.specs.CodesLines.{hex_digit_before}
use Rattle.hit_report.proofs.codes_lines.append_word.Given as goal

abbrev pub invariant-loop-index : goal.invariant-loop-index
invariant-loop-index l = record {
  digits : l.text.items ≡ l.initial.text.items ++ map (λ i. hex_digit_before (15 - i) l.word) (range_with_len 0 l.index);
  front : KeepsFront l.fn.text.items l.text.items;
}
