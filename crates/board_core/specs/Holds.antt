-- The rule of the board: the words are as many as the shape says, and each part holds.
use Rattle.std.specs.Prelude.{◌≡◌, List, length}
use Rattle.atomic_table.specs.Table.{State}
use Rattle.htss_defs.specs.declared.shape.Shape.{Shape}
use Rattle.htss_defs.specs.declared.history.Event.{Event}
use Rattle.board_core.specs.declared.account.View.{View}
use Rattle.board_core.specs.Words.{Parts, parts_of, total_of}
use Rattle.board_core.specs.Histories.{history_of}
use Rattle.board_core.specs.SeatRule.{SeatRule}
use Rattle.board_core.specs.LogRule.{LogRule}
use Rattle.board_core.specs.StoryRule.{StoryRule}
use Rattle.board_core.specs.LoadRule.{LoadRule}
use Rattle.board_core.specs.RoomRule.{RoomRule}
use Rattle.board_core.specs.FullRule.{FullRule}
use Rattle.board_core.specs.MarkRule.{MarkRule}
use Rattle.board_core.specs.RecordRule.{RecordRule}
use Rattle.board_core.specs.FactRule.{FactRule}
use Rattle.board_core.specs.PoolRule.{PoolRule}
use Rattle.board_core.specs.OwnRule.{OwnRule}
use Rattle.board_core.specs.EmptyRule.{EmptyRule}
use Rattle.board_core.specs.Rows.{codes_in, RowRule}
use Rattle.board_core.specs.OldRows.{IsOldRow}
use Rattle.board_core.specs.PinRule.{PinRule}
use Rattle.board_core.specs.TreeRule.{TreeRule}
use Rattle.board_core.specs.ChainRule.{ChainRule}
use Rattle.board_core.specs.Sheets.{sheet_of}
use Rattle.board_core.specs.PublishedRule.{PublishedRule}
use Rattle.board_core.specs.Swept.{SweptRule}

-- the parts, over the words by group, the history that they show, and all views
pub record Rule (k : Shape) (p : Parts) (history : List Event) (vs : List View) : Type 0 where
  pub seats : SeatRule k vs
  pub log : LogRule k p.log history vs
  pub stories : StoryRule k history vs
  pub loads : LoadRule k p.log vs
  pub rooms : RoomRule k p.regions p.log.front p.log.slots vs
  pub full : FullRule k vs
  pub marks : MarkRule k p.regions p.log.front p.log.slots vs
  pub records : RecordRule k vs
  pub facts : FactRule k p.regions p.log.front vs
  pub pool : PoolRule k p.pool vs
  pub own : OwnRule p.pages vs
  pub empty : EmptyRule k p.pool.states vs
  pub rows : RowRule k vs
  pub published : PublishedRule k vs
  pub pins : PinRule p.log.front vs
  pub chains : ChainRule k p.pages (sheet_of p.pool.states vs) vs
  pub swept : SweptRule k p vs
  pub tree : TreeRule k p.pool.states p.pages (codes_in k p.regions) (IsOldRow k p.regions p.log.slots) vs

pub record Holds (k : Shape) (s : State (Unit {0}) View) : Type 0 where
  pub wide : length s.words ≡ total_of k
  pub rule : Rule k (parts_of k s.words) (history_of k (parts_of k s.words)) s.views
