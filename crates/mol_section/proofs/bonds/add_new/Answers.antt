use Rattle.mol_section.proofs.Taken.{is_taken-from}
use Rattle.mol_section.proofs.bonds.add_new.Goals as goal

pub returns-clause-new : goal.returns-clause-new
returns-clause-new c = is_taken-from _ _ _ c.add_new.ensures.apart
