use Rattle.mol_section.specs.Lines.{lines_of}
use Rattle.mol_section.specs.Walk.{AtBlocks}
use Rattle.mol_section.proofs.blocks.read_blocks.Given as goal

abbrev pub invariant-loop-i : goal.invariant-loop-i
invariant-loop-i g l = AtBlocks g.D.Draft.refusals (lines_of l.bytes) l.sizes l.i l.lines.passed (lines_of l.lines.rest.now) l.graph (g.D.Draft.holds l.draft)
