-- The chains of leaves of the last depth that a caller keeps in mind (this project's own).
use Rattle.std.specs.Prelude.{◌≡◌, ◌≢◌, ℕ, List}
use Rattle.htss_defs.specs.declared.shape.Shape.{Shape}
use Rattle.board_core.specs.declared.tree.Reached.{Reached}
use Rattle.board_core.specs.Each.{Each}
use Rattle.board_core.specs.Loaded.{IsPage}
use Rattle.board_core.specs.Passing.{AreKeptOf}
use Rattle.board.specs.declared.seats.Tail.{Tail}

-- each but those of page 0 are pages of two leaves of one chain that were kept
pub record AreTails (k : Shape) (xs : List Reached) (ts : List Tail) : Type 0 where
  pub each : Each (λ t. t.first ≢ 0 → AreKeptOf xs t.first t.last × IsPage k t.last) ts
