-- The history that a report tells, as the code has it.
use Rattle.std.specs.Prelude.{◌≡◌, ℕ, ◌^◌, ◌<◌, List, length, All}
use Rattle.htss_defs.specs.declared.history.Event.{Event}
use Rattle.htss_defs.specs.Marked.{IsMarked}
use Rattle.htss_defs.specs.Molecule.{Molecule}
use Rattle.reg_model.specs.Registries.{AreWithdrawals}
use Rattle.report_rules.specs.Faults.{told_from}
use Rattle.told_history.specs.declared.names.Namer.{Namer}
use Rattle.told_history.specs.declared.names.Namer.TheVariants.{Nobody, NoRecord, Record}
use Rattle.told_history.specs.declared.told.Told.{Told}
use Rattle.told_history.specs.Named.{IsTable}

abbrev pub IsMarkedNamer : Namer → Type 0
IsMarkedNamer Nobody = Unit {0}
IsMarkedNamer NoRecord = Unit {0}
IsMarkedNamer (Record mol) = IsMarked mol.now

-- there is all of each line, and the ring bonds of each record are marked
pub record IsWhole (t : Told) : Type 0 where
  pub few : length t.lines.now < 2 ^ 32
  pub withdrawals : length t.withdrawals.now ≡ length t.lines.now
  pub table : length t.table.now ≡ length t.lines.now
  pub marked : All IsMarkedNamer t.table.now

-- these lines, with the molecules of the lines that name their events, are this history
pub record Tells (t : Told) (history : List Event) : Type 0 where
  pub named : List (ℕ × Molecule)
  pub history_is : history ≡ told_from named 1 t.lines.now
  pub withdrawals : AreWithdrawals history t.withdrawals.now
  pub table : IsTable named t.table.now
