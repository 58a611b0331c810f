use Rattle.std.proofs.Common.{ℕ, ◌<◌, ◌≤◌, arith}
use Rattle.htss_defs.specs.declared.shape.Shape.{Shape}
use Rattle.htss_defs.specs.declared.shape.Field.TheVariants.{Pages}
use Rattle.htss_defs.specs.Shapes.{IsShape}
use Rattle.board_core.specs.Loaded.{IsPage}
use Rattle.board_core.proofs.LoadPage.{walk_allowed}
use Rattle.board.proofs.Tied.{same_table}
use Rattle.board.proofs.TreeWords.{page_fits}
use Rattle.board.proofs.tree.begin_walk.Goals as goal

one_page : (k : Shape) → IsShape k → IsPage k 1
one_page k h = let some_pages = (h Pages).0 in (omega arith, omega arith)

pub page_place-at-requires-clause-page : goal.page_place-at-requires-clause-page
page_place-at-requires-clause-page c = one_page c.board.inside.shape c.board.invariant.2

pub load-requires : goal.load-requires
load-requires c =
    let inside = one_page c.board.inside.shape c.board.invariant.2 in (
      same_table _ _ _ _ _ _ _ _ _ c.board.view_is c.caller.view_is c.requires.fits,
      page_fits _ _ _ _ _ _ _ 1 0 c.board.invariant.1 c.page_place-at.ensures inside.0 inside.1 (omega arith),
      walk_allowed _ _ _ _ _,
    )
