-- What was answered of full rooms is true: fewer words were left than were needed, and no more are left now.
use Rattle.std.specs.Prelude.{◌-◌, List, length}
use Rattle.htss_defs.specs.declared.shape.Shape.{Shape}
use Rattle.board_core.specs.declared.account.View.{View}
use Rattle.board_core.specs.Each.{Each}
use Rattle.board_core.specs.Accounts.{EachAccount}
use Rattle.board_core.specs.Truths.{IsTrueRoom}

abbrev pub FullRule : Shape → List View → Type 0
FullRule k vs = EachAccount (λ a. Each (λ n. IsTrueRoom (k.room - length a.room.used) n.entry) a.entries) vs
