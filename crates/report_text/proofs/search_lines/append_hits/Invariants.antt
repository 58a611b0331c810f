use Rattle.std.proofs.Common.{◌≡◌, ◌++◌, take}
use Rattle.std.specs.List.{flat_map}
use Rattle.hit_report.specs.Appends.{KeepsFront}
use Rattle.hit_report.specs.HitLines.{hit_line}
use Rattle.report_text.proofs.search_lines.append_hits.Given as goal

abbrev pub invariant-loop-hit : goal.invariant-loop-hit
invariant-loop-hit l = record {
  lines : l.text.items ≡ l.initial.text.items ++ flat_map hit_line (take l.hit-index l.hits);
  front : KeepsFront l.fn.text.items l.text.items;
}
