use Rattle.std.proofs.Common.{ℕ, List, ◌++◌, map, take}
use Rattle.htss_defs.specs.Molecule.{Molecule}
use Rattle.report_rules.specs.Faults.{namings}
use Rattle.told_history.specs.Named.{IsTable}
use Rattle.told_history.specs.Reads.{outcome_of}
use Rattle.told_history.proofs.names.name_lines.Given as goal

abbrev pub invariant-loop-index : goal.invariant-loop-index
invariant-loop-index l = (named : List (ℕ × Molecule)) → IsTable named l.fn.table → IsTable (named ++ namings (map outcome_of l.records) (take l.index l.lines)) l.table
