-- Own pages (this project's own): what an account says that it has stored in a page of its own, in order, stands there.
use Rattle.std.specs.Prelude.{◌≡◌, ℕ, List}
use mathlib.Core.Option.{some}
use lib.ListN.{get_elem?}
use Rattle.board_core.specs.declared.pool.Own.{Own}
use Rattle.board_core.specs.declared.account.View.{View}
use Rattle.board_core.specs.Each.{Each}
use Rattle.board_core.specs.Accounts.{EachAccount}

pub record OwnFits (pages : ℕ → ℕ → ℕ) (o : Own) : Type 0 where
  pub words : (i n : ℕ) → get_elem? o.words i ≡ some n → pages o.page i ≡ n

abbrev pub OwnRule : (ℕ → ℕ → ℕ) → List View → Type 0
OwnRule pages vs = EachAccount (λ a. Each (OwnFits pages) a.pool.own) vs
