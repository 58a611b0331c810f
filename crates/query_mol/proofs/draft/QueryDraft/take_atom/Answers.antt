use Rattle.std.proofs.Common.{refl}
use Rattle.query_mol.proofs.Drafts.{atom_taken, atom_refused}
use Rattle.query_mol.proofs.draft.QueryDraft.take_atom.Goals as goal

pub returns-in-Err-clause-stop : goal.returns-in-Err-clause-stop
returns-in-Err-clause-stop c = λ graph lines n parts keeps here. (refl, atom_refused here c.in-Err.ensures.refused)

pub returns-in_ok-push-in-Ok-2-clause-taken : goal.returns-in_ok-push-in-Ok-2-clause-taken
returns-in_ok-push-in-Ok-2-clause-taken c = λ graph lines n parts keeps here.
    atom_taken _ _ c.in-Ok.says c.in_ok-push-in-Ok.ensures.items c.in_ok-push-in-Ok-2.ensures.items c.in-Ok.ensures.accepted keeps here
