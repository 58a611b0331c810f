use Rattle.std.proofs.Common.{◌≡◌, length, ap, sym, ◌∙◌, subst}
use Rattle.htss_defs.specs.declared.shape.Shape.{Shape}
use Rattle.board_core.specs.declared.account.Account.{Account}
use Rattle.board_core.specs.ClassTree.{slot_at}
use Rattle.board_core.specs.Loaded.{IsPage, page_word}
use Rattle.board_core.specs.After.{visited}
use Rattle.board_core.specs.Steps.{MayLoadSlot}
use Rattle.board.proofs.Tied.{same_table, same_shape, of_shape, of_account, of_both}
use Rattle.board.proofs.TreeWords.{page_fits, slot_inside, slot_asked}
use Rattle.board.proofs.tree.load_slot_of.Goals as goal

pub load-requires : goal.load-requires
load-requires g c =
    let may = of_both (λ (k : Shape) (a : Account). MayLoadSlot k a c.args.number) _ _ _ _ _ _ _ _ _ _ c.board.view_is c.caller.view_is c.board.invariant.0 c.requires.may in
    let page = of_account (λ (a : Account). (visited a.tree.reached c.args.number).page ≡ c.args.page) _ _ _ _ _ _ c.caller.view_is c.requires.page in
    let inside = of_shape (λ (k : Shape). IsPage k c.args.page) _ _ _ c.board.view_is (subst (IsPage c.args.board.now.shape) c.requires.page c.requires.may.visit.inside) in
    let at = c.page_place-at.ensures ∙ ap (λ (k : Shape). page_word k c.args.page (c.args.place)) (sym c.board.invariant.0) in (
      same_table _ _ _ _ _ _ _ _ _ c.board.view_is c.caller.view_is c.requires.fits,
      page_fits _ _ _ _ _ _ _ c.args.page (c.args.place) c.board.invariant.1 c.page_place-at.ensures inside.0 inside.1 (slot_inside _ _ _ c.requires.place c.requires.may.room),
      slot_asked _ _ _ _ c.args.number c.args.page c.args.place _ _ c.requires.is at page (of_account (λ (a : Account). slot_at (visited a.tree.reached c.args.number).leaf (length (visited a.tree.reached c.args.number).slots) ≡ c.args.place) _ _ _ _ _ _ c.caller.view_is c.requires.place) (same_shape _ _ _ _ _ _ _ _ _ _ c.board.view_is c.caller.view_is c.board.invariant.0 c.requires.fits) may,
    )
