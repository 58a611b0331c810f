use Rattle.std.proofs.Common.{◌≡◌, false}
use Rattle.molecule_tests.proofs.records.are_told_by_bytes.Given as goal

abbrev pub invariant-loop-i : goal.invariant-loop-i
invariant-loop-i l = record {
  fed : l.reader.fed ≡ l.i;
  goes_on : l.reader.finished ≡ false;
}
