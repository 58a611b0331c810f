use Rattle.std.proofs.Common.{◌≡◌, ◌+◌, ◌≤◌, ◌++◌, map, drop}
use Rattle.script_run.specs.Merging.{places_from}
use Rattle.script_run.proofs.Merges.{blocks_in}
use Rattle.script_run.proofs.Queues.{in_turn}
use Rattle.script_run.proofs.merge.merge.Given as goal

abbrev pub invariant-loop-job : goal.invariant-loop-job
invariant-loop-job l = record {
  few : l.count.loads + l.count.searches ≤ l.job-index;
  whole : in_turn (places_from l.shape 0 0 l.jobs) (map blocks_in l.fn.outcomes)
      ≡ l.blocks.items ++ in_turn (places_from l.shape l.count.loads l.count.searches (drop l.job-index l.jobs)) (map blocks_in l.outcomes);
}
