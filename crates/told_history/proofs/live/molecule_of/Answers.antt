use Rattle.std.proofs.Common.{sym, subst}
use Rattle.told_history.specs.declared.names.Namer.{Namer}
use Rattle.told_history.specs.Named.{IsNamer}
use Rattle.told_history.proofs.LiveTold.{unnamed}
use Rattle.told_history.proofs.live.molecule_of.Goals as goal

pub returns-in-Nobody-clause-mol : goal.returns-in-Nobody-clause-mol
returns-in-Nobody-clause-mol c = λ named number is. sym (unnamed named number (subst (λ (n : Namer). IsNamer named number n) c.in-Nobody.is is))
