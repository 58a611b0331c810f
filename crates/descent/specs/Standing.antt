-- Where a descent stands, and what it changes of its caller.
use Rattle.std.specs.Prelude.{◌≡◌, ℕ, ◌<◌, ◌≤◌, List, [], ◌++◌, length}
use Rattle.board_core.specs.declared.account.Account.{Account}
use Rattle.board_core.specs.declared.loads.CodeLoad.{CodeLoad}
use Rattle.board_core.specs.declared.loads.WordLoad.{WordLoad}
use Rattle.board_core.specs.declared.room.Row.{Row}
use Rattle.board_core.specs.Blocks.{atoms_in}
use Rattle.board_core.specs.Each.{Each}
use Rattle.board_core.specs.Met.{HasHead}
use Rattle.board.specs.Seated.{Place, Seated, IsOf, with_account}

-- the caller is the board's and pinned, and has reached so many pages
pub record Stands (b : Place) (c : Seated) (count : ℕ) : Type 0 where
  pub of : IsOf b c
  pub pinned : 0 < c.account.pool.announced
  pub pages : count ≡ length c.account.tree.reached

-- an account without the pages reached, the codes loaded and the first words loaded
abbrev pub rest : Account → Account
rest a = record a { tree = record a.tree { reached = [] }; loads = record a.loads { codes = []; heads = [] } }

-- the first word of the row's block was loaded, and by it the block has the row's atom
pub record HasAtom (a : Account) (r : Row) : Type 0 where
  pub head : ℕ
  pub loaded : HasHead a r.block head
  pub above : 0 < r.atom
  pub most : r.atom ≤ atoms_in head

-- the caller has reached pages, and loaded codes and first words: each code is of an atom that its block has. Nothing
-- else of it has changed
pub record OnlyLoads (c d : Seated) : Type 0 where
  pub same : with_account d (rest d.account) ≡ with_account c (rest c.account)
  pub codes : List CodeLoad
  pub codes_are : d.account.loads.codes ≡ c.account.loads.codes ++ codes
  pub heads : List WordLoad
  pub heads_are : d.account.loads.heads ≡ c.account.loads.heads ++ heads
  pub atoms : Each (λ l. HasAtom d.account l.row) codes
