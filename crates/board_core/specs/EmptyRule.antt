-- What was answered of an empty pool is true: no page is free (this project's own).
use Rattle.std.specs.Prelude.{ℕ, List}
use Rattle.htss_defs.specs.declared.shape.Shape.{Shape}
use Rattle.board_core.specs.declared.account.View.{View}
use Rattle.board_core.specs.Each.{Each}
use Rattle.board_core.specs.Accounts.{EachAccount}
use Rattle.board_core.specs.Truths.{IsTruePool}

abbrev pub EmptyRule : Shape → (ℕ → ℕ) → List View → Type 0
EmptyRule k states vs = EachAccount (λ a. Each (λ n. IsTruePool k states n.entry) a.entries) vs
