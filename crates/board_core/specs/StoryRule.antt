-- Accounts are true: their entries are, and each event is told by its caller alone.
use Rattle.std.specs.Prelude.{◌≡◌, ℕ, ◌<◌, List, []}
use Rattle.htss_defs.specs.declared.shape.Shape.{Shape}
use Rattle.htss_defs.specs.declared.history.Event.{Event}
use Rattle.board_core.specs.declared.account.View.{View}
use Rattle.board_core.specs.Histories.{events_by}
use Rattle.board_core.specs.Accounts.{EachAccount}
use Rattle.board_core.specs.Truths.{IsTrueStory}
use Rattle.board_core.specs.SeatRule.{made}

pub record StoryRule (k : Shape) (history : List Event) (vs : List View) : Type 0 where
  pub stories : EachAccount (λ a. IsTrueStory k history a.who a.entries) vs
  -- a caller that is not made yet has no events
  pub none_before : (c : ℕ) → made vs < c → events_by c history ≡ []
