use Rattle.std.proofs.Common.{◌≡◌}
use Rattle.mol_section.specs.Lines.{lines_of}
use Rattle.mol_section.specs.Walk.{AtHeader}
use Rattle.mol_section.proofs.blocks.read_counts.Given as goal

abbrev pub invariant-loop : goal.invariant-loop
invariant-loop g l = record {
  at : AtHeader g.D.Draft.refusals (lines_of l.bytes) l.counter (lines_of l.lines.rest.now);
  passed : l.lines.passed ≡ l.counter;
}
