use Rattle.std.proofs.Common.{take}
use Rattle.std.specs.Prelude.{All}
use Rattle.command_ends.specs.RunText.{CanBeRead, files_named, jobs_of}
use Rattle.command_ends.specs.Ends.{ShelfGoesOn, seen}
use Rattle.script_files.specs.JobFiles.{HaveFiles}
use Rattle.script_files.proofs.files.read_all_files.Given as goal

abbrev pub invariant-loop-group : goal.invariant-loop-group
invariant-loop-group g l = record {
  goes_on : ShelfGoesOn (seen g.F.Shelf.told g.F.Shelf.absent g.F.Shelf.faults l.fn.shelf) (seen g.F.Shelf.told g.F.Shelf.absent g.F.Shelf.faults l.shelf);
  have : HaveFiles (g.F.Shelf.told l.fn.shelf) l.files (jobs_of (take l.group-index l.groups));
  were_read : All (CanBeRead (g.F.Shelf.told l.fn.shelf)) (files_named (jobs_of (take l.group-index l.groups)));
}
