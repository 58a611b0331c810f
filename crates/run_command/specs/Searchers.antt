-- What the searchers of a run have read, by words of a board that show its history (this project's own).
use Rattle.std.specs.Prelude.{◌≡◌, ℕ, ◌≤◌}
use mathlib.Core.Option.{some}
use lib.ListN.{get_elem?}
use Rattle.htss_defs.specs.declared.shape.Shape.{Shape}
use Rattle.board_core.specs.declared.account.Account.{Account}
use Rattle.board_core.specs.Answers.{answers_in}
use Rattle.board.specs.Closed.{Closing, IsShown}
use Rattle.board_jobs.specs.Reading.{AreRead}

-- some words show the history of the closed board and have what each caller has loaded. By these words the names, atoms
-- and bonds that a searcher has loaded for each of its searches are those of records that are live and screened among
-- the events of its front, and where it has hits, all of these. Searchers come after the loaders
pub record HaveSearched (shape : Shape) (last : Closing) : Type 0 where
  pub shape_is : last.shape ≡ shape
  pub shown : IsShown last
  pub read : (i : ℕ) (a : Account) → shape.loaders ≤ i → get_elem? last.accounts i ≡ some a
      → AreRead shape shown.words 0 (answers_in a.entries) a.loads.facts
