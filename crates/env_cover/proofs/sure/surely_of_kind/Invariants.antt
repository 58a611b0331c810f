use Rattle.std.proofs.Common.{◌≡◌, ℕ, ◌<◌, ◌≤◌, true}
use Rattle.env_cover.proofs.Sureness.{is_sure}
use Rattle.env_cover.proofs.sure.surely_of_kind.Given as goal

abbrev pub invariant-loop-element : goal.invariant-loop-element
invariant-loop-element l = (x : ℕ) → 1 ≤ x → x < l.element → is_sure l.test l.lane x ≡ true
