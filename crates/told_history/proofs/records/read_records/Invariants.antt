use Rattle.std.proofs.Common.{◌≡◌, length, map, true}
use Rattle.ctfile.specs.Stream.{HasRead}
use Rattle.told_history.specs.Reads.{outcome_of}
use Rattle.told_history.proofs.records.read_records.Given as goal

abbrev pub invariant-loop-records : goal.invariant-loop-records
invariant-loop-records l = record {
  read : HasRead l.bytes (map outcome_of l.records.items) l.reader;
  finished : l.reader.finished ≡ true;
}

abbrev pub decreases-loop-records : goal.decreases-loop-records
decreases-loop-records l = length l.reader.pending
