use Rattle.mol_section.proofs.Outcomes.{no_line}
use Rattle.mol_section.proofs.section.first_line.Goals as goal

pub returns-in-None : goal.returns-in-None
returns-in-None c = absurd (no_line _ c.in-None.ensures.none c.requires)
