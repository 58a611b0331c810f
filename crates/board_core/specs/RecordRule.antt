-- What an account has stored as a block shows a record.
use Rattle.std.specs.Prelude.{List}
use Rattle.htss_defs.specs.declared.shape.Shape.{Shape}
use Rattle.board_core.specs.declared.account.View.{View}
use Rattle.board_core.specs.Each.{Each}
use Rattle.board_core.specs.Accounts.{EachAccount}
use Rattle.board_core.specs.Records.{IsRecord}
use Rattle.board_core.specs.RoomRule.{store_of, own_block}

abbrev pub RecordRule : Shape → List View → Type 0
RecordRule k vs = EachAccount (λ a. Each (λ s. IsRecord (own_block k (store_of a) s.place)) a.room.sealed) vs
