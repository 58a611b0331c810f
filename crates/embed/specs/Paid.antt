-- What a search pays.
use Rattle.std.specs.Prelude.{◌≡◌, ℕ, ◌+◌, ◌<◌, ◌≤◌}

-- at least the price, and at most the cost
pub record Paid (price cost before now : ℕ) : Type 0 where
  pub least : now + price ≤ before
  pub most : before ≤ now + cost

-- a search that is not free stopped since the budget is below the cost, and nothing is left
pub record IsSpent (price cost before now : ℕ) : Type 0 where
  pub priced : 0 < price
  pub short : before < cost
  pub left : now ≡ 0
