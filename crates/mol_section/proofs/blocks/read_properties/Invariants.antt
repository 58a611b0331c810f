use Rattle.std.proofs.Common.{length}
use Rattle.mol_section.specs.Lines.{lines_of}
use Rattle.mol_section.specs.Walk.{AtProperties}
use Rattle.mol_section.proofs.blocks.read_properties.Given as goal

abbrev pub invariant-loop-line : goal.invariant-loop-line
invariant-loop-line g l = AtProperties g.D.Draft.refusals (lines_of l.bytes) l.lines.passed l.passing (lines_of l.lines.rest.now) l.graph (g.D.Draft.holds l.draft)

abbrev pub decreases-loop-line : goal.decreases-loop-line
decreases-loop-line g l = length l.lines.rest.now
