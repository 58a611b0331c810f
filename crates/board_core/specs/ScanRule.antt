-- Scans of announcements (this project's own): where a scan has passed a caller, no leaf that the caller holds has a
-- stamp below the least epoch so far.
use Rattle.std.specs.Prelude.{ℕ, ◌<◌, ◌≤◌, List}
use Rattle.htss_defs.specs.declared.shape.Shape.{Shape}
use Rattle.board_core.specs.declared.account.View.{View}
use Rattle.board_core.specs.Each.{Each}
use Rattle.board_core.specs.Accounts.{EachAccount}
use Rattle.board_core.specs.Sheets.{Sheet, stamp_of}
use Rattle.board_core.specs.EpochRule.{Claim, claim_of}

-- no stamp of these pages is earlier than n
abbrev pub AreLater : Sheet → ℕ → List ℕ → Type 0
AreLater s n ps = Each (λ p. 0 < stamp_of s p → n ≤ stamp_of s p) ps

-- of the scan of one, and the leaves of another
abbrev pub Passed : Sheet → Claim → Claim → Type 0
Passed s a b = 0 < b.seat → b.seat ≤ a.passed → AreLater s a.low b.held

abbrev pub ScanRule : Shape → Sheet → List View → Type 0
ScanRule k s vs = EachAccount (λ a. EachAccount (λ b. Passed s (claim_of k a) (claim_of k b)) vs) vs
