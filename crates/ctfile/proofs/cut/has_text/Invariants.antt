use Rattle.std.proofs.Common.{◌≡◌, length}
use Rattle.mol_section.specs.Lines.{lines_of}
use Rattle.ctfile.specs.Cut.{has_text}
use Rattle.ctfile.proofs.cut.has_text.Given as goal

abbrev pub invariant-loop-line : goal.invariant-loop-line
invariant-loop-line l = has_text (lines_of l.bytes) ≡ has_text (lines_of l.rest)

abbrev pub decreases-loop-line : goal.decreases-loop-line
decreases-loop-line l = length l.rest
