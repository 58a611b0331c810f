use Rattle.std.proofs.Common.{◌≡◌, length, drop}
use Rattle.ctfile.specs.Cut.{IsLooked}
use Rattle.ctfile.proofs.cut.look.Given as goal

abbrev pub invariant-loop-line : goal.invariant-loop-line
invariant-loop-line l = record {
  looked : IsLooked l.bytes l.looked.at l.looked.lines l.looked.searched;
  rest : l.rest ≡ drop l.looked.at l.bytes;
}

abbrev pub decreases-loop-line : goal.decreases-loop-line
decreases-loop-line l = length l.rest
