use Rattle.std.proofs.Common.{◌≡◌, ◌-◌, ◌+◌, ◌≤◌, length, vec_len}
use Rattle.outside.specs.Files.{HasFront, file_limit}
use Rattle.outside.proofs.whole.read_whole.Given as goal

abbrev pub invariant-loop-bytes : goal.invariant-loop-bytes
invariant-loop-bytes g l = record {
  size : length l.bytes.items ≤ file_limit;
  told : g.F.Shelf.told l.shelf ≡ g.F.Shelf.told l.fn.shelf;
  absent : g.F.Shelf.absent l.fn.shelf ≤ g.F.Shelf.absent l.shelf;
  faults : g.F.Shelf.faults l.fn.shelf ≤ g.F.Shelf.faults l.shelf;
  front : HasFront (g.F.Shelf.told l.fn.shelf) l.name l.bytes.items;
}

abbrev pub decreases-loop-bytes : goal.decreases-loop-bytes
decreases-loop-bytes g l = file_limit + 1 - vec_len l.bytes
