-- Never free again (this project's own): a page whose state was loaded as other than free, or whose exchange was lost,
-- is not free.
use Rattle.std.specs.Prelude.{◌≢◌, ℕ, List}
use Rattle.board_core.specs.declared.account.View.{View}
use Rattle.board_core.specs.declared.loads.Loads.{Loads}
use Rattle.board_core.specs.Each.{Each}
use Rattle.board_core.specs.Accounts.{EachAccount}

pub record StatesStand (states : ℕ → ℕ) (l : Loads) : Type 0 where
  pub seen : Each (λ x. x.word ≢ 0 → states x.page ≢ 0) l.states
  pub lost : Each (λ x. states x.page ≢ 0) l.lost

abbrev pub StateRule : (ℕ → ℕ) → List View → Type 0
StateRule states vs = EachAccount (λ a. StatesStand states a.loads) vs
