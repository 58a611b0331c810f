use Rattle.std.proofs.Common.{◌≡◌, ◌++◌, take}
use Rattle.std.specs.List.{flat_map}
use Rattle.hit_report.specs.Appends.{KeepsFront}
use Rattle.report_text.specs.ReportText.{load_line}
use Rattle.report_text.proofs.load_lines.append_answers.Given as goal

abbrev pub invariant-loop-answer : goal.invariant-loop-answer
invariant-loop-answer l = record {
  lines : l.text.items ≡ l.initial.text.items ++ flat_map load_line (take l.answer-index l.answers);
  front : KeepsFront l.fn.text.items l.text.items;
}
