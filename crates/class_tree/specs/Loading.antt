-- The loads of a row's codes, and of what the pool grows at (this project's own).
use Rattle.std.specs.Prelude.{◌≡◌, ℕ, ◌+◌, List, [], ◌∷◌}
use mathlib.Core.Option.{some}
use lib.ListN.{get_elem?}
use Rattle.board_core.specs.declared.account.Account.{Account}
use Rattle.board_core.specs.declared.loads.StateLoad.{StateLoad}
use Rattle.board_core.specs.declared.loads.WordLoad.{WordLoad}
use Rattle.board_core.specs.declared.loads.CodeLoad.{CodeLoad}
use Rattle.board_core.specs.declared.room.Row.{Row}

-- these words, loaded as the row's codes from code i on
abbrev pub code_loads : Row → ℕ → List ℕ → List CodeLoad
code_loads row i [] = []
code_loads row i (word ∷ words) = record { row = row; code = i; word = word } ∷ code_loads row (i + 1) words

-- the second account has loaded all that the first has of epochs, announcements, states of pages, codes and first words
-- of blocks
pub record LoadsOn (a b : Account) : Type 0 where
  pub epochs : (j x : ℕ) → get_elem? a.loads.epochs j ≡ some x → get_elem? b.loads.epochs j ≡ some x
  pub announcements : (j x : ℕ) → get_elem? a.loads.announcements j ≡ some x
      → get_elem? b.loads.announcements j ≡ some x
  pub states : (j : ℕ) (x : StateLoad) → get_elem? a.loads.states j ≡ some x → get_elem? b.loads.states j ≡ some x
  pub lost : (j : ℕ) (x : StateLoad) → get_elem? a.loads.lost j ≡ some x → get_elem? b.loads.lost j ≡ some x
  pub codes : (j : ℕ) (x : CodeLoad) → get_elem? a.loads.codes j ≡ some x → get_elem? b.loads.codes j ≡ some x
  pub heads : (j : ℕ) (x : WordLoad) → get_elem? a.loads.heads j ≡ some x → get_elem? b.loads.heads j ≡ some x
