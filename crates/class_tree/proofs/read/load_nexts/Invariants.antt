use Rattle.std.proofs.Common.{◌≡◌, length}
use Rattle.class_tree.specs.Splitting.{Learns, AreRowsOf}
use Rattle.class_tree.specs.Walking.{here}
use Rattle.class_tree.proofs.read.load_nexts.Given as goal

abbrev pub invariant-loop-index : goal.invariant-loop-index
invariant-loop-index l = record {
  rows_size : length l.rows ≡ 14;
  codes_size : length l.codes ≡ 14;
  learns : Learns l.fn.caller l.caller;
  rows : AreRowsOf l.caller.account (here l.caller.account l.at) l.rows l.codes l.index;
}
