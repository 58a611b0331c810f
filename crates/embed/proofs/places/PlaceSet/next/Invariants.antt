use Rattle.std.proofs.Common.{◌≡◌, ℕ, ◌+◌, ◌-◌, ◌<◌}
use Rattle.embed.specs.Places.{place_bit}
use Rattle.embed.proofs.places.PlaceSet.next.Given as goal

abbrev pub invariant-loop-from : goal.invariant-loop-from
invariant-loop-from l = record {
  above : l.after < l.from;
  none : (p : ℕ) → l.after < p → p < l.from → place_bit l.self.words p ≡ 0;
}

abbrev pub decreases-loop-from : goal.decreases-loop-from
decreases-loop-from l = l.last + 1 - l.from
