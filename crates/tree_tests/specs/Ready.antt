-- Callers of the tests (this project's own).
use Rattle.std.specs.Prelude.{ℕ, ◌+◌, ◌≤◌, length}
use Rattle.board.specs.Seated.{Place, Seated, IsAtRest, IsLoader}
use Rattle.class_tree.specs.Inserting.{IsStocked}

-- a loader that keeps each own page for later
abbrev pub CanLoad : Seated → Type 0
CanLoad c = IsLoader c × IsStocked c

-- a caller at rest that keeps each own page for later
abbrev pub IsResting : Place → Seated → Type 0
IsResting b c = IsAtRest b c × IsStocked c

-- a loader at rest that keeps each own page for later
abbrev pub IsLoading : Place → Seated → Type 0
IsLoading b c = IsAtRest b c × CanLoad c

-- it was given so many pages that it did not keep, and may be given 32 in all
pub record WasGiven (c : Seated) (count : ℕ) : Type 0 where
  pub own : length c.account.pool.own ≤ length c.stock + count
  pub most : length c.stock + count ≤ 32
