-- What each step tells its caller beside what it found: the rule holds, so there is a board that has the caller.
use Rattle.std.specs.Prelude.{◌≡◌, ℕ, List}
use mathlib.Core.Option.{some}
use lib.ListN.{get_elem?}
use Rattle.atomic_table.specs.Table.{Step}
use Rattle.htss_defs.specs.declared.shape.Shape.{Shape}
use Rattle.board_core.specs.declared.account.Account.{Account}
use Rattle.board_core.specs.declared.account.View.{View}
use Rattle.board_core.specs.Words.{Parts}
use Rattle.board_core.specs.Histories.{history_of}
use Rattle.board_core.specs.Holds.{Rule}
use Rattle.board_core.specs.Steps.{Mine}

-- the rule holds of these words and of these views, and the account is one of theirs
pub record HasBoard (k : Shape) (p : Parts) (vs : List View) (a : Account) : Type 0 where
  pub rule : Rule k p (history_of k p) vs
  pub id : ℕ
  pub view : View
  pub at : get_elem? vs id ≡ some view
  pub me : view.me ≡ a

abbrev pub SomeBoard : Shape → Account → Type 0
SomeBoard k a = (p : Parts) × (vs : List View) × HasBoard k p vs a

-- what a step tells, and that there is such a board before it and after it
pub record OnBoard (Loads : Step (Unit {0}) → Mine → ℕ → Mine → Type 0) (s : Step (Unit {0})) (m : Mine) (found : ℕ)
    (n : Mine) : Type 0 where
  pub told : Loads s m found n
  pub before : SomeBoard m.0.shape m.0.me
  pub board : SomeBoard m.0.shape n.0.me
