-- How many rows were begun where a chain of pages is full, at each moment of a board (this project's own).
use Rattle.std.specs.Prelude.{ℕ, ◌*◌, ◌≤◌, List}
use Rattle.htss_defs.specs.declared.shape.Shape.{Shape}
use Rattle.htss_defs.specs.declared.history.Event.{Event}
use Rattle.board_core.specs.declared.account.View.{View}
use Rattle.board_core.specs.Words.{Parts}
use Rattle.board_core.specs.Accounts.{total}
use Rattle.board_core.specs.Sheets.{sheet_of}
use Rattle.board_core.specs.ChainRule.{HasFullChain}
use Rattle.board_core.specs.CountRule.{insertions_of}
use Rattle.board_core.specs.Holds.{Rule}

-- where the rule of the board holds, as it does at each moment: so many full pages of one chain have seven insertions
-- each
abbrev pub LawOfChains : Type 0
LawOfChains = (k : Shape) (p : Parts) (history : List Event) (vs : List View) → Rule k p history vs
    → (pages : ℕ) → HasFullChain p.pages (sheet_of p.pool.states vs) pages → 7 * pages ≤ total insertions_of vs
