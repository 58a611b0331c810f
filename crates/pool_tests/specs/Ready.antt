-- Callers of a pool's tests (this project's own).
use Rattle.std.specs.Prelude.{◌≡◌, ℕ, ◌≤◌, [], length}
use Rattle.board.specs.Seated.{Place, Seated, IsOf, IsLoader}

-- a caller that is not pinned, and has no page
pub record IsIdle (b : Place) (c : Seated) : Type 0 where
  pub of : IsOf b c
  pub unpinned : c.account.pool.announced ≡ 0
  pub own : c.account.pool.own ≡ []
  pub bare : c.stock ≡ []

-- a caller that is not pinned, and keeps at most one page, and no other
pub record IsResting (b : Place) (c : Seated) : Type 0 where
  pub of : IsOf b c
  pub unpinned : c.account.pool.announced ≡ 0
  pub own : length c.account.pool.own ≤ length c.stock
  pub few : length c.stock ≤ 1

-- a loader that keeps no page, and was given so many at most
pub record IsReady (b : Place) (c : Seated) (count : ℕ) : Type 0 where
  pub of : IsOf b c
  pub loader : IsLoader c
  pub own : length c.account.pool.own ≤ count
  pub bare : c.stock ≡ []
