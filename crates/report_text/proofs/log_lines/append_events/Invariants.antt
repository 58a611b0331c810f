use Rattle.std.proofs.Common.{◌≡◌, ◌++◌, ◌+◌, length}
use Rattle.hit_report.specs.Appends.{KeepsFront}
use Rattle.report_text.specs.ReportText.{events_from}
use Rattle.report_text.proofs.log_lines.append_events.Given as goal

abbrev pub invariant-loop-left : goal.invariant-loop-left
invariant-loop-left l = record {
  lines : l.text.items ++ events_from l.number l.left ≡ l.initial.text.items ++ events_from 1 l.events;
  numbers : l.number + length l.left ≡ length l.events + 1;
  front : KeepsFront l.fn.text.items l.text.items;
}

abbrev pub decreases-loop-left : goal.decreases-loop-left
decreases-loop-left l = length l.left
