use Rattle.std.proofs.Common.{refl}
use Rattle.mol_section.proofs.Records.{bond_taken, bond_refused}
use Rattle.mol_section.proofs.record.Record.take_bond.Goals as goal

pub returns-in_ok-push-in-Ok-clause-taken : goal.returns-in_ok-push-in-Ok-clause-taken
returns-in_ok-push-in-Ok-clause-taken c = λ lines n parts keeps here.
    bond_taken _ c.in-Ok.says _ c.in_ok-push-in-Ok.ensures.items c.in-Ok.ensures.accepted c.in-Ok.ensures.added keeps here

pub returns-in-Err-clause-stop : goal.returns-in-Err-clause-stop
returns-in-Err-clause-stop c = λ lines n parts keeps here. (refl, bond_refused here c.in-Err.ensures.refused)
