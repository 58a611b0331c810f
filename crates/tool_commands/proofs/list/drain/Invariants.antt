use Rattle.std.proofs.Common.{◌≡◌, ℕ, List, length}
use Rattle.mol_section.specs.SectionRecord.{Outcome}
use Rattle.ctfile.specs.Stream.{HasRead}
use Rattle.tool_commands.proofs.list.drain.Given as goal

abbrev pub invariant-loop-place : goal.invariant-loop-place
invariant-loop-place g l = record {
  asked : g.T.Taker.asked l.taker ≡ g.T.Taker.asked l.fn.taker;
  taken : g.T.Taker.taken l.taker ≡ l.reader.place;
  finished : l.reader.finished ≡ l.fn.reader.finished;
  fed : l.reader.fed ≡ l.fn.reader.fed;
  more : (stream : List ℕ) (outcomes : List Outcome) → HasRead stream outcomes l.fn.reader → g.T.Taker.holds l.fn.taker outcomes → (all : List Outcome) × HasRead stream all l.reader × g.T.Taker.holds l.taker all;
}

abbrev pub decreases-loop-place : goal.decreases-loop-place
decreases-loop-place g l = length l.reader.pending
