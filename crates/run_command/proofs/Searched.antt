-- What the searchers of a run have read, said of the board that is closed alone.
use Rattle.std.proofs.Common.{◌≡◌, sym, subst}
use Rattle.std.specs.Prelude.{Option, Some, None, IfSome}
use Rattle.htss_defs.specs.declared.shape.Shape.{Shape}
use Rattle.board.specs.Closed.{Closing}
use Rattle.run_command.specs.Searchers.{HaveSearched}

pub searched_on : (shape : Shape) (last : Option Closing) → IfSome last (λ l. HaveSearched shape l) → IfSome last (λ l. HaveSearched l.shape l)
searched_on shape None searched = tt
searched_on shape (Some l) searched = subst (λ (k : Shape). HaveSearched k l) (sym searched.shape_is) searched
