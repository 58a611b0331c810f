-- When one word of eight lanes reaches another (this project's own).
use Rattle.std.specs.Prelude.{◌≡◌, ℕ, ◌≤◌, ◌<◌, IsTrue, slice_index}
use Rattle.htss_defs.specs.declared.needs.Need.{Need}
use Rattle.htss_defs.specs.Passes.{allows}
use Rattle.htss_defs.specs.Codes.{lane}

-- each lane of the code is at least the one that is needed
abbrev pub Reaches : ℕ → ℕ → Type 0
Reaches need code = (i : ℕ) → i < 8 → lane need i ≤ lane code i

-- one code covers: it reaches the need's word of its level, and the test of the need allows the element of code 0
abbrev pub CoversCode : Need → ℕ → ℕ → Type 0
CoversCode need level code = (level ≡ 0 → IsTrue (allows need.test (lane code 0)))
    × Reaches (slice_index need.words level) code
