use Rattle.std.proofs.Common.{take}
use Rattle.std.specs.List.{AllZip}
use Rattle.told_history.specs.Reads.{IsReadOf}
use Rattle.told_history.proofs.reads.read_jobs.Given as goal

abbrev pub invariant-loop-laid : goal.invariant-loop-laid
invariant-loop-laid l = AllZip (IsReadOf l.files) (take l.laid-index l.jobs) l.reads.items
