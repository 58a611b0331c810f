use Rattle.std.proofs.Common.{◌≡◌, length}
use Rattle.molecule_tests.proofs.records.tell.Given as goal

abbrev pub invariant-loop-place : goal.invariant-loop-place
invariant-loop-place l = record {
  fed : l.reader.fed ≡ l.fn.reader.fed;
  finished : l.reader.finished ≡ l.fn.reader.finished;
}

abbrev pub decreases-loop-place : goal.decreases-loop-place
decreases-loop-place l = length l.reader.pending
