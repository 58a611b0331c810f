-- What the descent reads of an account: the pages that were reached since the pin, and the code words that were loaded
-- (this project's own).
use Rattle.std.specs.Prelude.{ℕ, List, [], ◌∷◌, ◌++◌, map}
use Rattle.board_core.specs.declared.account.Account.{Account}
use Rattle.board_core.specs.declared.loads.CodeLoad.{CodeLoad as BoardLoad}
use Rattle.board_core.specs.declared.room.Row.{Row}
use Rattle.board_core.specs.declared.tree.Reached.{Reached}
use Rattle.board_core.specs.Met.{row_named}
use Rattle.board_core.specs.Rows.{entry_word}

-- a code word of a row was loaded. The row goes by the entry that names it
pub record CodeLoad : Type 0 where
  pub row : ℕ
  pub level : ℕ
  pub code : ℕ

pub record Seat : Type 0 where
  pub reached : List Reached
  pub loads : List CodeLoad

abbrev pub load : ℕ → ℕ → ℕ → CodeLoad
load row level code = record { row = row; level = level; code = code }

abbrev pub load_of : BoardLoad → CodeLoad
load_of l = load (entry_word l.row) l.code l.word

abbrev pub seat_of : Account → Seat
seat_of a = record { reached = a.tree.reached; loads = map load_of a.loads.codes }

abbrev pub with_reached : Seat → List Reached → Seat
with_reached s rs = record { reached = rs; loads = s.loads }

abbrev pub with_load : Seat → ℕ → ℕ → ℕ → Seat
with_load s row level code = record { reached = s.reached; loads = s.loads ++ load row level code ∷ [] }

-- the rows that these entries name
abbrev pub named : List ℕ → List Row
named [] = []
named (n ∷ ns) = row_named n ∷ named ns
