use Rattle.std.proofs.Common.{◌≡◌, ◌*◌, ◌≤◌, take, sum}
use Rattle.env_cover.proofs.needs.lane_sum.Given as goal

abbrev pub invariant-loop-lane : goal.invariant-loop-lane
invariant-loop-lane l = record {
  is : l.sum ≡ sum (take l.lane-index l.lane-items);
  few : l.sum ≤ 255 * l.lane-index;
}
