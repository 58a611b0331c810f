use Rattle.std.proofs.Common.{◌≡◌, ℕ, ◌<◌, ◌≤◌, length, get_or}
use Rattle.ring_bonds.proofs.marking.own_tops.Given as goal

abbrev pub invariant-loop-x : goal.invariant-loop-x
invariant-loop-x l = record {
  size : length l.tops ≡ 1000;
  own : (y : ℕ) → y < 1000 → (l.x ≤ y → get_or l.fn.tops y 0 ≡ y) → get_or l.tops y 0 ≡ y;
}
