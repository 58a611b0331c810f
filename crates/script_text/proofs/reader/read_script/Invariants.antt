use Rattle.std.proofs.Common.{◌+◌, ◌≤◌, length}
use Rattle.mol_section.specs.Lines.{lines_of}
use Rattle.script_text.specs.Reading.{IsReadTo}
use Rattle.script_text.proofs.reader.read_script.Given as goal

abbrev pub invariant-loop-line : goal.invariant-loop-line
invariant-loop-line l = record {
  read : IsReadTo (lines_of l.bytes) l.number (lines_of l.rest) (record { count = l.begun.count; ended = l.begun.ended.items; jobs = l.begun.jobs.items });
  fewer : l.number + length (lines_of l.rest) ≤ length (lines_of l.bytes);
}

abbrev pub decreases-loop-line : goal.decreases-loop-line
decreases-loop-line l = length l.rest
