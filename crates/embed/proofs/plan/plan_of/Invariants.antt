use Rattle.std.proofs.Common.{◌≡◌, ℕ, ◌+◌, ◌<◌, length, slice_index_or}
use Rattle.embed.specs.Anchors.{IsLead}
use Rattle.embed.proofs.plan.plan_of.Given as goal

abbrev pub invariant-loop-i : goal.invariant-loop-i
invariant-loop-i l = record {
  len : length l.plan ≡ 64;
  leads : (j : ℕ) → j < l.i → IsLead l.query l.asked (j + 1) (slice_index_or l.plan j 0);
}
