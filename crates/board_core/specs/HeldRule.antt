-- Held leaves (this project's own): only a pinned caller holds any; each is linked, unlinked or retired, and its stamp,
-- if it has one, is no earlier than the caller's announcement.
use Rattle.std.specs.Prelude.{◌≡◌, ℕ, ◌<◌, ◌≤◌, List}
use Rattle.board_core.specs.declared.account.View.{View}
use Rattle.board_core.specs.Each.{Each}
use Rattle.board_core.specs.Accounts.{EachAccount}
use Rattle.board_core.specs.Sheets.{Sheet, stamp_of}
use Rattle.board_core.specs.Held.{held_in}

pub record HeldFits (s : Sheet) (announced p : ℕ) : Type 0 where
  pub pinned : 0 < announced
  pub busy : 0 < s.state p
  pub owned : s.owned p ≡ 0
  pub later : 0 < stamp_of s p → announced ≤ stamp_of s p

abbrev pub HeldRule : Sheet → List View → Type 0
HeldRule s vs = EachAccount (λ a. Each (HeldFits s a.pool.announced) (held_in a.tree.reached)) vs
