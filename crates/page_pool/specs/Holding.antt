-- What holds of pages that are held, at each moment of a board (this project's own).
use Rattle.std.specs.Prelude.{◌≡◌, ◌≢◌, ℕ, List}
use Rattle.htss_defs.specs.declared.shape.Shape.{Shape}
use Rattle.htss_defs.specs.declared.history.Event.{Event}
use Rattle.board_core.specs.declared.account.Account.{Account}
use Rattle.board_core.specs.declared.account.View.{View}
use Rattle.board_core.specs.Each.{Each}
use Rattle.board_core.specs.Words.{Parts}
use Rattle.board_core.specs.Accounts.{EachAccount}
use Rattle.board_core.specs.Held.{held_in}
use Rattle.board_core.specs.Sheets.{owns}
use Rattle.board_core.specs.Holds.{Rule}

-- the caller is pinned where it holds pages, and none of them is free, or the other's own
pub record KeepsOff (states : ℕ → ℕ) (holder other : Account) (page : ℕ) : Type 0 where
  pub pinned : holder.pool.announced ≢ 0
  pub busy : states page ≢ 0
  pub apart : owns page other.pool.own ≡ 0

-- where the rule of the board holds, as it does at each moment, so it is for each two callers
abbrev pub LawOfHolding : Type 0
LawOfHolding = (k : Shape) (p : Parts) (history : List Event) (vs : List View) → Rule k p history vs
    → EachAccount (λ holder. EachAccount
    (λ other. Each (KeepsOff p.pool.states holder other) (held_in holder.tree.reached)) vs) vs
