use Rattle.std.proofs.Common.{length}
use Rattle.report_read.specs.Runs.{IsReadTo}
use Rattle.report_read.specs.StageOf.{stage_of}
use Rattle.report_read.proofs.reader.read_report.Given as goal

abbrev pub invariant-loop-end : goal.invariant-loop-end
invariant-loop-end l = IsReadTo l.bytes l.rest l.number (stage_of l.state)

abbrev pub decreases-loop-end : goal.decreases-loop-end
decreases-loop-end l = length l.rest
