use Rattle.std.proofs.Common.{◌≡◌, false, length}
use Rattle.tool_commands.proofs.Streams.{ReadBack}
use Rattle.tool_commands.proofs.read_back.read_back.Given as goal

abbrev pub invariant-loop-rest : goal.invariant-loop-rest
invariant-loop-rest g l = record {
  unfinished : l.reader.finished ≡ false;
  asked : g.T.Taker.asked l.taker ≡ g.T.Taker.asked l.fn.taker;
  taken : g.T.Taker.taken l.taker ≡ l.reader.place;
  so_far : ReadBack l.bytes l.rest l.reader (g.T.Taker.holds l.taker);
}

abbrev pub decreases-loop-rest : goal.decreases-loop-rest
decreases-loop-rest g l = length l.rest
