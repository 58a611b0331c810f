-- How many pages are not free, at each moment of a board (this project's own).
use Rattle.std.specs.Prelude.{ℕ, ◌≤◌, List}
use Rattle.htss_defs.specs.declared.shape.Shape.{Shape}
use Rattle.htss_defs.specs.declared.history.Event.{Event}
use Rattle.board_core.specs.declared.account.View.{View}
use Rattle.board_core.specs.Words.{Parts}
use Rattle.board_core.specs.Accounts.{total}
use Rattle.board_core.specs.CountRule.{busy_up_to, insertions_of, pages_for}
use Rattle.board_core.specs.Holds.{Rule}

-- where the rule of the board holds, as it does at each moment, they are few for the insertions that all callers have
-- begun
abbrev pub LawOfCounts : Type 0
LawOfCounts = (k : Shape) (p : Parts) (history : List Event) (vs : List View) → Rule k p history vs
    → busy_up_to p.pool.states k.pages ≤ pages_for (total insertions_of vs) k.loaders
