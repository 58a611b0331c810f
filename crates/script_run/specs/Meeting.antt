-- What callers know when they have met.
use Rattle.std.specs.Prelude.{◌≡◌, ◌⊎◌, ℕ, ◌≤◌, List, map, All, Contains}
use Rattle.board.specs.Seated.{Seated, with_account}
use Rattle.board_jobs.specs.Groups.{with_seen}

-- the caller that has seen just this front
abbrev pub seen_at : ℕ → Seated → Seated
seen_at front c = with_account c (with_seen front c.account)

-- the greatest of a front and of those that the callers have seen
pub record IsMostSeen (front : ℕ) (callers : List Seated) (most : ℕ) : Type 0 where
  pub front_within : front ≤ most
  pub seen_within : All (λ c. c.account.log.seen ≤ most) callers
  pub one_of_them : (most ≡ front) ⊎ Contains (map (λ c. c.account.log.seen) callers) most

-- each has then seen the greatest front that one of them had seen
pub record SawMost (before after : List Seated) : Type 0 where
  pub most : ℕ
  pub is_most : IsMostSeen 0 before most
  pub after_is : after ≡ map (seen_at most) before
