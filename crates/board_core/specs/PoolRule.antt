-- The pool (this project's own): epochs, page status, held leaves, scans, counts, and that no page is free again.
use Rattle.std.specs.Prelude.{List}
use Rattle.htss_defs.specs.declared.shape.Shape.{Shape}
use Rattle.board_core.specs.declared.account.View.{View}
use Rattle.board_core.specs.Words.{PoolWords}
use Rattle.board_core.specs.Sheets.{sheet_of}
use Rattle.board_core.specs.EpochRule.{EpochRule}
use Rattle.board_core.specs.PageRule.{PageRule}
use Rattle.board_core.specs.HeldRule.{HeldRule}
use Rattle.board_core.specs.ScanRule.{ScanRule}
use Rattle.board_core.specs.StateRule.{StateRule}
use Rattle.board_core.specs.CountRule.{CountRule}

pub record PoolRule (k : Shape) (w : PoolWords) (vs : List View) : Type 0 where
  pub epochs : EpochRule k w.epoch w.announced vs
  pub pages : PageRule w.epoch (sheet_of w.states vs)
  pub held : HeldRule (sheet_of w.states vs) vs
  pub scans : ScanRule k (sheet_of w.states vs) vs
  pub states : StateRule w.states vs
  pub counts : CountRule k w.states vs
