use Rattle.std.proofs.Common.{◌≡◌, ◌++◌, take}
use Rattle.std.specs.List.{flat_map}
use Rattle.hit_report.specs.Appends.{KeepsFront}
use Rattle.report_text.specs.ReportText.{block_text}
use Rattle.run_command.proofs.texts.append_each.Given as goal

abbrev pub invariant-loop-block : goal.invariant-loop-block
invariant-loop-block l = record {
  lines : l.text.items ≡ l.initial.text.items ++ flat_map block_text (take l.block-index l.blocks);
  front : KeepsFront l.fn.text.items l.text.items;
}
