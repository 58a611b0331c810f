-- What a caller has after a descent that gave all: an entry that tells of the rows, and what was loaded.
use Rattle.std.specs.Prelude.{◌≡◌, ℕ, List, [], ◌∷◌, ◌++◌, length}
use Rattle.htss_defs.specs.declared.shape.Shape.{Shape}
use Rattle.htss_defs.specs.declared.needs.Need.{Need}
use Rattle.board_core.specs.declared.entry.Entry.TheVariants.{Swept}
use Rattle.board_core.specs.declared.room.Row.{Row}
use Rattle.board_core.specs.Each.{Each}
use Rattle.board_core.specs.After.{after_answer}
use Rattle.board_core.specs.Loaded.{IsInTable, KnowsRow}
use Rattle.board.specs.Seated.{Seated, with_account}
use Rattle.env_cover.specs.Reach.{CoversCode}
use Rattle.descent.specs.Seats.{CodeLoad, seat_of}
use Rattle.descent.specs.Pruned.{IsPruned, IsLoaded, CountsLoaded}
use Rattle.descent.specs.Walks.{IsTold}
use Rattle.descent.specs.Standing.{HasAtom, OnlyLoads}

-- from c to d these rows were given and noted, and so many rows were loaded. Whatever five codes the rows have that
-- agree with the code words loaded, these are pruned. A code of each row that was given was loaded, its block is in the
-- table and has its atom
pub record HasSwept (k : Shape) (need : Need) (c d : Seated) (given : List Row) (count : ℕ) : Type 0 where
  pub between : Seated
  pub only : OnlyLoads c between
  pub after : d ≡ with_account between (after_answer between.account (Swept need c.account.tree.front given ∷ []))
  pub loads : List CodeLoad
  pub loads_are : (seat_of d.account).loads ≡ (seat_of c.account).loads ++ loads
  pub pruned : (any : ℕ → List ℕ) → ((r : ℕ) → IsLoaded loads r → length (any r) ≡ 5) → Each (IsTold any) loads
      → IsPruned any (CoversCode need) loads
  pub rows : CountsLoaded loads count
  pub known : Each (λ r. KnowsRow d.account r.block × IsInTable k r.block) given
  pub atoms : Each (HasAtom d.account) given
