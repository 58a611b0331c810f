-- Page status (this project's own): a page is free, one caller's own, linked, unlinked by one caller, or retired. No
-- stamp is past the epoch.
use Rattle.std.specs.Prelude.{◌≡◌, ℕ, ◌+◌, ◌<◌, ◌≤◌}
use Rattle.board_core.specs.Sheets.{Sheet, stamp_of}

pub record PageFits (epoch : ℕ) (s : Sheet) (p : ℕ) : Type 0 where
  pub once : s.owned p + s.parted p ≤ 1
  pub busy : 0 < s.owned p + s.parted p → s.state p ≡ 1
  pub past : stamp_of s p ≤ epoch

abbrev pub PageRule : ℕ → Sheet → Type 0
PageRule epoch s = (p : ℕ) → PageFits epoch s p
