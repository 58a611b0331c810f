use Rattle.std.proofs.Common.{◌≡◌, take}
use Rattle.board_jobs.proofs.copies.copied_hits.Given as goal

abbrev pub invariant-loop-hit : goal.invariant-loop-hit
invariant-loop-hit l = l.copy.items ≡ take l.hit-index l.hits
