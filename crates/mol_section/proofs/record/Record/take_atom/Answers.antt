use Rattle.std.proofs.Common.{refl}
use Rattle.mol_section.proofs.Records.{atom_taken, atom_refused}
use Rattle.mol_section.proofs.record.Record.take_atom.Goals as goal

pub returns-in_ok-push-in-Ok-clause-taken : goal.returns-in_ok-push-in-Ok-clause-taken
returns-in_ok-push-in-Ok-clause-taken c = λ graph lines n parts keeps here.
    atom_taken _ c.in-Ok.atom c.in_ok-push-in-Ok.ensures.items c.in-Ok.ensures.accepted keeps here

pub returns-in-Err-clause-stop : goal.returns-in-Err-clause-stop
returns-in-Err-clause-stop c = λ graph lines n parts keeps here. (refl, atom_refused here c.in-Err.ensures.refused)
