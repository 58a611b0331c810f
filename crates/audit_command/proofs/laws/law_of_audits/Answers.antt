use Rattle.audit_command.proofs.OneOutcome.{held_is_sound, one_first}
use Rattle.audit_command.proofs.laws.law_of_audits.Goals as goal

pub returns-clause-held : goal.returns-clause-held
returns-clause-held c = held_is_sound

pub returns-clause-one : goal.returns-clause-one
returns-clause-one c = one_first
