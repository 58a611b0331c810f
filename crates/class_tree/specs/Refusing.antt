-- Why a walk stops before the row is placed (this project's own).
use Rattle.std.specs.Prelude.{◌≡◌, ℕ, ◌<◌, [], ◌∷◌, ◌++◌, length}
use Rattle.htss_defs.specs.declared.shape.Shape.{Shape}
use Rattle.board_core.specs.declared.entry.Entry.{Entry}
use Rattle.board_core.specs.declared.entry.Entry.TheVariants.{NoPage as PageWanted, ChainFull as ChainWasFull}
use Rattle.board_core.specs.declared.loads.Loads.{Loads}
use Rattle.board_core.specs.declared.room.Row.{Row}
use Rattle.board_core.specs.After.{noted, after_answer}
use Rattle.board.specs.Seated.{Seated, with_account, with_stock}
use Rattle.page_pool.specs.Taking.{IsRefused}
use Rattle.class_tree.specs.declared.insert.InsertError.{InsertError}
use Rattle.class_tree.specs.declared.insert.InsertError.TheVariants.{NoPage, ChainFull}
use Rattle.class_tree.specs.Inserting.{HasFullChain, IsNeeded}
use Rattle.class_tree.specs.Loading.{LoadsOn}
use Rattle.class_tree.specs.Walking.{rest_of}

-- from c to d nothing but this was answered
pub record Answers (c d : Seated) (e : Entry) : Type 0 where
  pub table : d.table ≡ c.table
  pub shape : d.shape ≡ c.shape
  pub loads : Loads
  pub grows : LoadsOn c.account d.account
  pub rest : rest_of d.account ≡ record (rest_of c.account) { entries = c.account.entries ++ noted loads (e ∷ []) }

-- so many pages were wanted. The pool refused one to a caller that kept none; then those that had been taken were kept
-- again
pub record WasRefused (k : Shape) (c d : Seated) (need : ℕ) : Type 0 where
  pub answers : Answers c d PageWanted
  pub before : Seated
  pub empty : before.stock ≡ []
  pub after : Seated
  pub refused : IsRefused k before after
  pub end : d ≡ with_stock after d.stock
  pub short : length d.stock < need

-- and that many were needed
pub record LacksPages (k : Shape) (c d : Seated) (row : Row) : Type 0 where
  pub need : ℕ
  pub refused : WasRefused k c d need
  pub needed : IsNeeded k d.account row need

-- a chain on the row's walk is full
pub record WasFullChain (k : Shape) (c d : Seated) (row : Row) (pages : ℕ) : Type 0 where
  pub answers : Answers c d (ChainWasFull pages)
  pub all : pages ≡ k.chain
  pub middle : Seated
  pub chain : HasFullChain k middle.account row
  pub after : d ≡ with_account middle (after_answer middle.account (ChainWasFull pages ∷ []))

abbrev pub Stops : Shape → Seated → Seated → Row → InsertError → Type 0
Stops k c d row NoPage = LacksPages k c d row
Stops k c d row (ChainFull pages) = WasFullChain k c d row pages
