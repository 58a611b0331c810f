-- Published rows: all rows of a block that is published, or marked as such, are placed.
use Rattle.std.specs.Prelude.{◌≡◌, ℕ, ◌<◌, ◌≤◌, List, Option, Some}
use Rattle.htss_defs.specs.declared.shape.Shape.{Shape}
use Rattle.board_core.specs.declared.account.Who.{Who}
use Rattle.board_core.specs.declared.account.View.{View}
use Rattle.board_core.specs.declared.room.Row.{Row}
use Rattle.board_core.specs.Each.{In}
use Rattle.board_core.specs.Blocks.{atoms_in}
use Rattle.board_core.specs.Accounts.{EachAccount}
use Rattle.board_core.specs.MarkRule.{IsAmong}
use Rattle.board_core.specs.Rows.{words_of}

abbrev pub AllPlaced : Shape → Who → List ℕ → List Row → ℕ → Type 0
AllPlaced k who used placed block = (atom : ℕ) → 0 < atom → atom ≤ atoms_in (words_of k who used block 0)
    → In (record { block = block; atom = atom }) placed

pub record PublishedFits (k : Shape) (who : Who) (used shown : List ℕ) (shows : Option ℕ)
    (placed : List Row) : Type 0 where
  pub published : (block : ℕ) → IsAmong shown block → AllPlaced k who used placed block
  pub pending : (block : ℕ) → shows ≡ Some block → AllPlaced k who used placed block

abbrev pub PublishedRule : Shape → List View → Type 0
PublishedRule k vs =
    EachAccount (λ a. PublishedFits k a.who a.room.used a.room.published a.log.pending.shows a.tree.placed) vs
