use Rattle.std.proofs.Common.{◌≡◌, ap, sym, ◌∙◌, subst, arith}
use Rattle.htss_defs.specs.declared.shape.Shape.{Shape}
use Rattle.board_core.specs.declared.account.Account.{Account}
use Rattle.board_core.specs.declared.tree.Reached.{Reached}
use Rattle.board_core.specs.Loaded.{IsPage, page_word}
use Rattle.board_core.specs.Passing.{MayRecall}
use Rattle.board.proofs.Tied.{same_table, same_shape, of_shape, of_both}
use Rattle.board.proofs.TreeWords.{page_fits}
use Rattle.board.proofs.TailWords.{recall_asked}
use Rattle.board.proofs.recall.recall_of.Goals as goal

pub load-requires : goal.load-requires
load-requires g c =
    let may = of_both (λ (k : Shape) (a : Account). MayRecall k a g.R.Returns.number g.R.Returns.to) _ _ _ _ _ _ _ _ _ _ c.board.view_is c.caller.view_is c.board.invariant.0 c.requires.may in
    let inside = of_shape (λ (k : Shape). IsPage k c.args.page) _ _ _ c.board.view_is (subst (IsPage c.args.board.now.shape) c.requires.page c.requires.may.inside) in
    let at = c.page_place-at.ensures ∙ ap (λ (k : Shape). page_word k c.args.page (0)) (sym c.board.invariant.0) in (
      same_table _ _ _ _ _ _ _ _ _ c.board.view_is c.caller.view_is c.requires.fits,
      page_fits _ _ _ _ _ _ _ c.args.page (0) c.board.invariant.1 c.page_place-at.ensures inside.0 inside.1 (omega arith),
      recall_asked _ _ _ g.R.Returns.number c.args.page _ g.R.Returns.to _ at c.requires.page (same_shape _ _ _ _ _ _ _ _ _ _ c.board.view_is c.caller.view_is c.board.invariant.0 c.requires.fits) may,
    )
