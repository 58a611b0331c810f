-- What a descent leaves of a caller's account, and what it has found (this project's own).
use Rattle.std.specs.Prelude.{◌≡◌, ℕ, List, [], ◌++◌, map, length}
use Rattle.htss_defs.specs.declared.shape.Shape.{Shape}
use Rattle.htss_defs.specs.declared.needs.Need.{Need}
use Rattle.htss_defs.specs.QueryGraph.{QueryGraph}
use Rattle.htss_defs.specs.Needs.{need_at}
use Rattle.htss_defs.specs.Screened.{IsPivot}
use Rattle.env_cover.specs.Reach.{CoversCode}
use Rattle.board_core.specs.declared.account.Account.{Account}
use Rattle.board_core.specs.declared.entry.Entry.TheVariants.{Swept}
use Rattle.board_core.specs.declared.entry.Noted.{Noted}
use Rattle.board_core.specs.declared.room.Row.{Row}
use Rattle.board_core.specs.Each.{Each, In}
use Rattle.board_core.specs.After.{stamp_all}
use Rattle.board_core.specs.Answers.{answers_in}
use Rattle.board_core.specs.Loaded.{Grows, IsInTable, KnowsRow}
use Rattle.descent.specs.Standing.{HasAtom}
use Rattle.descent.specs.Seats.{CodeLoad, load_of}
use Rattle.descent.specs.Pruned.{IsPruned, IsLoaded, CountsLoaded}
use Rattle.descent.specs.Walks.{IsTold}

-- the caller was pinned and is no more. It has loaded an epoch, codes and first words of blocks, and nothing else; it
-- has noted rows, or nothing
pub record Visits (a b : Account) : Type 0 where
  pub grown : Grows a b
  pub who : b.who ≡ a.who
  pub log : b.log ≡ a.log
  pub room : b.room ≡ a.room
  pub unpinned : b.pool.announced ≡ 0
  pub own : b.pool.own ≡ a.pool.own
  pub parted : (e : ℕ) × (b.pool.parted ≡ stamp_all e a.pool.parted)
  pub tree : b.tree ≡ record a.tree { front = a.log.seen; reached = [] }
  pub counts : b.counts ≡ a.counts
  pub fronts : b.loads.fronts ≡ a.loads.fronts
  pub shown : b.loads.shown ≡ a.loads.shown
  pub marks : b.loads.marks ≡ a.loads.marks
  pub facts : b.loads.facts ≡ a.loads.facts
  pub answers : answers_in b.entries ≡ answers_in a.entries

-- a descent, and then loads of log words, of marks and of words of blocks, but of no codes
pub record HasRead (a b : Account) : Type 0 where
  pub grown : Grows a b
  pub who : b.who ≡ a.who
  pub log : b.log ≡ a.log
  pub room : b.room ≡ a.room
  pub unpinned : b.pool.announced ≡ 0
  pub own : b.pool.own ≡ a.pool.own
  pub parted : (e : ℕ) × (b.pool.parted ≡ stamp_all e a.pool.parted)
  pub tree : b.tree ≡ record a.tree { front = a.log.seen; reached = [] }
  pub counts : b.counts ≡ a.counts
  pub fronts : b.loads.fronts ≡ a.loads.fronts
  pub answers : answers_in b.entries ≡ answers_in a.entries

-- the need of the query's pivot
pub record IsNeedOf (query : QueryGraph) (need : Need) : Type 0 where
  pub pivot : ℕ
  pub is_pivot : IsPivot query pivot
  pub is : need ≡ need_at query pivot

-- the code words that were loaded from a to b are pruned by the need of the query's pivot, whatever five codes the rows
-- have that agree with them, and so many rows were loaded
pub record LoadsPruned (query : QueryGraph) (a b : Account) (rows : ℕ) : Type 0 where
  pub need : Need
  pub need_is : IsNeedOf query need
  pub loads : List CodeLoad
  pub loads_are : map load_of b.loads.codes ≡ map load_of a.loads.codes ++ loads
  pub pruned : (any : ℕ → List ℕ) → ((r : ℕ) → IsLoaded loads r → length (any r) ≡ 5) → Each (IsTold any) loads
      → IsPruned any (CoversCode need) loads
  pub counts : CountsLoaded loads rows

-- the account notes these rows as those that cover the need of the query's pivot at the front
pub record NotesRows (query : QueryGraph) (b : Account) (front : ℕ) (rows : List Row) : Type 0 where
  pub need : Need
  pub need_is : IsNeedOf query need
  pub noted : Noted
  pub there : In noted b.entries
  pub is : noted.entry ≡ Swept need front rows

-- what a descent has found: these rows, of the blocks of which codes were loaded
pub record HasFound (k : Shape) (query : QueryGraph) (a b : Account) (given : List Row) (count : ℕ) : Type 0 where
  pub notes : NotesRows query b a.log.seen given
  pub known : Each (λ r. KnowsRow b r.block × IsInTable k r.block) given
  pub atoms : Each (HasAtom b) given
  pub pruned : LoadsPruned query a b count
