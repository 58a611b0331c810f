use Rattle.std.proofs.Common.{ap, length, arith}
use Rattle.mol_section.proofs.RawLines.{line_before, only_line}
use Rattle.mol_section.proofs.lines.raw_line.Goals as goal

pub returns-in-None-clause-line : goal.returns-in-None-clause-line
returns-in-None-clause-line c = only_line c.args.bytes.now (λ e. grind (arith, ap length e, c.is_empty.ensures, c.if-is_empty.false)) c.in-None.ensures.missing

pub returns-in-Some-clause-line : goal.returns-in-Some-clause-line
returns-in-Some-clause-line c =
    rw c.split_at.ensures.front (line_before c.args.bytes.now _ c.in-Some.i c.in-Some.ensures.within c.in-Some.ensures.found c.in-Some.ensures.first c.split_at.ensures.back)
