use Rattle.std.proofs.Common.{◌≡◌, ℕ, List, length, map, take}
use Rattle.std.specs.List.{AllZip}
use Rattle.htss_defs.specs.Molecule.{Molecule}
use Rattle.htss_defs.specs.declared.shape.Shape.{Shape}
use Rattle.report_rules.specs.Faults.{AreNamed}
use Rattle.told_history.specs.LaidJobs.{dealt_by}
use Rattle.told_history.specs.Named.{IsTable}
use Rattle.told_history.specs.Reads.{IsReadOf}
use Rattle.told_history.proofs.names.name_events.Given as goal

abbrev pub invariant-loop-index : goal.invariant-loop-index
invariant-loop-index l = record {
  named : (files : List (ℕ × List ℕ)) (shape : Shape) → AllZip (IsReadOf files) l.jobs l.reads
      → (named : List (ℕ × Molecule)) × AreNamed files (map (dealt_by shape) (take l.index l.jobs)) l.blocks named × IsTable named l.table.items;
  long : length l.table.items ≡ l.count;
}
