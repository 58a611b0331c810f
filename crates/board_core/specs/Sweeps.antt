-- When a caller may note what a descent answers.
use Rattle.std.specs.Prelude.{ℕ, List}
use Rattle.htss_defs.specs.declared.shape.Shape.{Shape}
use Rattle.htss_defs.specs.declared.needs.Need.{Need}
use Rattle.board_core.specs.declared.account.Account.{Account}
use Rattle.board_core.specs.declared.account.View.{View}
use Rattle.board_core.specs.declared.room.Row.{Row}
use Rattle.board_core.specs.declared.entry.Entry.TheVariants.{Swept}
use Rattle.board_core.specs.Words.{Parts}
use Rattle.board_core.specs.Swept.{IsSweptOn}
use Rattle.board_core.specs.Boards.{HasBoard}

-- it is true of each board that has the caller
abbrev pub MaySweep : Shape → Account → Need → ℕ → List Row → Type 0
MaySweep k a need front rows = (p : Parts) (vs : List View) → HasBoard k p vs a
    → IsSweptOn k p vs (Swept need front rows)
