use Rattle.std.proofs.Common.{sym, arith}
use Rattle.std.proofs.lemmas.List.{take_all}
use Rattle.mol_section.proofs.section.front.Goals as goal

pub returns-then-line-lt80-clause-front : goal.returns-then-line-lt80-clause-front
returns-then-line-lt80-clause-front c = sym (take_all 80 c.args.line.now (omega arith))
