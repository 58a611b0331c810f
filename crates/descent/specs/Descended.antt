-- What a whole descent promises.
use Rattle.std.specs.Prelude.{◌≡◌, ℕ, List, ◌++◌, length}
use Rattle.htss_defs.specs.declared.shape.Shape.{Shape}
use Rattle.board_core.specs.declared.account.View.{View}
use Rattle.board_core.specs.Each.{Each, In}
use Rattle.board_core.specs.Words.{Parts}
use Rattle.board_core.specs.Rows.{codes_in}
use Rattle.board_core.specs.Boards.{HasBoard}
use Rattle.board.specs.Seated.{Seated}
use Rattle.descent.specs.Sweep.{AllCover, IsSwept}
use Rattle.board_core.specs.declared.room.Row.{Row}
use Rattle.descent.specs.Seats.{CodeLoad, Seat, seat_of, named}
use Rattle.descent.specs.Different.{AreDifferent}
use Rattle.descent.specs.Pruned.{IsPruned, IsLoaded, CountsLoaded}
use Rattle.descent.specs.Moment.{Moment}
use Rattle.descent.specs.Walks.{IsTold, IsGood}
use Rattle.descent.specs.Standing.{OnlyLoads}

-- a board may be by what the caller knows: the rule holds of it with what was read of pages, and it has the codes that
-- were loaded
pub record MayBe (chain : ℕ) (codes : ℕ → List ℕ) (put old : ℕ → Type 0) (s : Seat) : Type 0 where
  pub moment : Moment chain codes put old s.reached
  pub told : Each (IsTold codes) s.loads

-- each old row that covers is given; what is given covers, differs, is placed, and codes of it were loaded; what was
-- loaded is pruned, whatever five codes the rows have that agree with the loads; and so many rows were loaded
pub record IsDescended (codes : ℕ → List ℕ) (put old : ℕ → Type 0) (covers : ℕ → ℕ → Type 0) (before : List CodeLoad)
    (b : Seat) (gs hs : List Row) (count : ℕ) : Type 0 where
  pub swept : IsSwept covers b.reached
  pub given : List ℕ
  pub given_are : hs ≡ gs ++ named given
  pub differ : AreDifferent given
  pub loads : List CodeLoad
  pub loads_are : b.loads ≡ before ++ loads
  pub placed : Each put given
  pub loaded : Each (IsLoaded loads) given
  pub covering : Each (λ r. AllCover covers 0 (codes r)) given
  pub all_old : (r : ℕ) → old r → AllCover covers 0 (codes r) → In r given
  pub told : Each (IsTold codes) loads
  pub pruned : IsPruned codes covers loads
  pub pruned_anyway : (any : ℕ → List ℕ) → ((r : ℕ) → IsLoaded loads r → length (any r) ≡ 5) → Each (IsTold any) loads
      → IsPruned any covers loads
  pub rows : CountsLoaded loads count

-- the sink could take no more: it was given these rows, none twice. Five codes of each were loaded, which all cover;
-- and so its codes do, whatever the board is
pub record HasCut (k : Shape) (covers : ℕ → ℕ → Type 0) (c d : Seated) (gs hs : List Row) : Type 0 where
  pub only : OnlyLoads c d
  pub given : List ℕ
  pub given_are : hs ≡ gs ++ named given
  pub differ : AreDifferent given
  pub loads : List CodeLoad
  pub loads_are : (seat_of d.account).loads ≡ (seat_of c.account).loads ++ loads
  pub good : Each (IsGood covers loads) given
  pub covering : (p : Parts) (vs : List View) → HasBoard k p vs d.account
      → Each (λ r. AllCover covers 0 (codes_in k p.regions r)) given
