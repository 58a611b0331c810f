-- Pins: the front that a caller had seen at its pin is not past the front.
use Rattle.std.specs.Prelude.{ℕ, ◌≤◌, List}
use Rattle.board_core.specs.declared.account.View.{View}
use Rattle.board_core.specs.Accounts.{EachAccount}

abbrev pub PinRule : ℕ → List View → Type 0
PinRule front vs = EachAccount (λ a. a.tree.front ≤ front) vs
