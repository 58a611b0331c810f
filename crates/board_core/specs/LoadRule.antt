-- What was loaded of the log still stands.
use Rattle.std.specs.Prelude.{◌≡◌, ℕ, ◌+◌, ◌<◌, ◌≤◌, List}
use Rattle.htss_defs.specs.declared.shape.Shape.{Shape}
use Rattle.board_core.specs.declared.account.View.{View}
use Rattle.board_core.specs.declared.loads.ShownLoad.{ShownLoad}
use Rattle.board_core.specs.Each.{Each}
use Rattle.board_core.specs.Words.{LogWords, log_at}
use Rattle.board_core.specs.Accounts.{EachAccount}

-- a log word that was loaded stands behind the front
pub record LoadFits (k : Shape) (w : LogWords) (l : ShownLoad) : Type 0 where
  pub seen : l.front ≤ w.front
  pub log : (i : ℕ) → i < k.log → l.place ≡ log_at k + i → (i < w.front) × (w.slots i ≡ l.word)

abbrev pub LoadRule : Shape → LogWords → List View → Type 0
LoadRule k w vs = EachAccount (λ a. Each (LoadFits k w) a.loads.shown) vs
