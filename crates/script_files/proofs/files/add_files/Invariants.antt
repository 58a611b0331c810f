use Rattle.std.proofs.Common.{List, ◌++◌, take}
use Rattle.std.specs.Prelude.{All}
use Rattle.script_text.specs.declared.script.Job.{Job}
use Rattle.command_ends.specs.RunText.{CanBeRead, files_named}
use Rattle.command_ends.specs.Ends.{ShelfGoesOn, seen}
use Rattle.script_files.specs.JobFiles.{AreRising, HaveFiles}
use Rattle.script_files.proofs.files.add_files.Given as goal

abbrev pub invariant-loop-job : goal.invariant-loop-job
invariant-loop-job g l = record {
  goes_on : ShelfGoesOn (seen g.F.Shelf.told g.F.Shelf.absent g.F.Shelf.faults l.fn.shelf) (seen g.F.Shelf.told g.F.Shelf.absent g.F.Shelf.faults l.shelf);
  have : (before : List Job) → AreRising (before ++ l.jobs) → HaveFiles (g.F.Shelf.told l.fn.shelf) l.fn.files before
      → HaveFiles (g.F.Shelf.told l.fn.shelf) l.files (before ++ take l.job-index l.jobs);
  were_read : All (CanBeRead (g.F.Shelf.told l.fn.shelf)) (files_named (take l.job-index l.jobs));
}
