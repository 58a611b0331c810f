-- That a later history has each earlier one as its prefix (this project's own).
use Rattle.std.specs.Prelude.{◌≡◌, ℕ, List, length, take}
use mathlib.Core.Option.{some}
use lib.ListN.{get_elem?}
use Rattle.htss_defs.specs.declared.shape.Shape.{Shape}
use Rattle.htss_defs.specs.declared.history.Event.{Event}
use Rattle.board_core.specs.declared.account.Account.{Account}
use Rattle.board_core.specs.declared.account.View.{View}
use Rattle.board_core.specs.declared.account.Who.TheVariants.{Loader}
use Rattle.board_core.specs.declared.entry.Noted.{Noted}
use Rattle.board_core.specs.Words.{Parts}
use Rattle.board_core.specs.Accounts.{EachAccount}
use Rattle.board_core.specs.RoomRule.{SomeAccount}
use Rattle.board_core.specs.Holds.{Rule}
use Rattle.board.specs.Closed.{Closing, IsSettled}

-- the second account is the same caller's, and has each entry of the first at its place
pub record GoesOn (a b : Account) : Type 0 where
  pub who : b.who ≡ a.who
  pub entries : (j : ℕ) (x : Noted) → get_elem? a.entries j ≡ some x → get_elem? b.entries j ≡ some x

-- the accounts at a moment, and at a later one: each loader's has gone on
abbrev pub IsLater : List View → List View → Type 0
IsLater vs ws = EachAccount (λ a. (loader : ℕ) → a.who ≡ Loader loader → SomeAccount (GoesOn a) ws) vs

-- where the rule of the board holds at two moments, as it does at each, the history of the later begins with that of
-- the earlier
abbrev pub LawOfHistory : Type 0
LawOfHistory = (k : Shape) (p q : Parts) (earlier later : List Event) (vs ws : List View) → Rule k p earlier vs
    → Rule k q later ws
    → IsLater vs ws → take (length earlier) later ≡ earlier

-- the accounts at a moment, and those that a closed board was given: each loader's has gone on
abbrev pub IsClosedLater : List View → List Account → Type 0
IsClosedLater vs accounts =
    EachAccount (λ a. (loader : ℕ) → a.who ≡ Loader loader → (j : ℕ) × (b : Account) × (get_elem? accounts j ≡ some b)
    × GoesOn a b) vs

-- the history of a closed board begins with that of each earlier moment
abbrev pub LawOfLastHistory : Type 0
LawOfLastHistory = (k : Shape) (p : Parts) (earlier : List Event) (vs : List View) (last : Closing)
    → Rule k p earlier vs → IsSettled last
    → IsClosedLater vs last.accounts → take (length earlier) last.history ≡ earlier
