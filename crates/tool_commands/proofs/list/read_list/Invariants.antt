use Rattle.std.proofs.Common.{◌≡◌, ◌≤◌, ◌-◌, ◌+◌, false}
use Rattle.outside.specs.Files.{file_limit}
use Rattle.command_ends.specs.Ends.{ShelfGoesOn, seen}
use Rattle.tool_commands.proofs.Streams.{ReadSoFar}
use Rattle.tool_commands.proofs.list.read_list.Given as goal

abbrev pub invariant-loop-count : goal.invariant-loop-count
invariant-loop-count g l = record {
  unfinished : l.reader.finished ≡ false;
  asked : g.T.Taker.asked l.taker ≡ g.T.Taker.asked l.fn.taker;
  taken : g.T.Taker.taken l.taker ≡ l.reader.place;
  fed : l.reader.fed ≡ l.offset;
  within : l.offset ≤ file_limit;
  goes_on : ShelfGoesOn (seen g.F.Shelf.told g.F.Shelf.absent g.F.Shelf.faults l.fn.shelf) (seen g.F.Shelf.told g.F.Shelf.absent g.F.Shelf.faults l.shelf);
  so_far : ReadSoFar (g.F.Shelf.told l.fn.shelf) l.name l.offset l.reader (g.T.Taker.holds l.taker);
}

abbrev pub decreases-loop-count : goal.decreases-loop-count
decreases-loop-count g l = file_limit + 1 - l.offset
