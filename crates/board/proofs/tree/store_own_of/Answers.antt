use Rattle.std.proofs.Common.{ap, sym, ◌∙◌}
use Rattle.htss_defs.specs.declared.shape.Shape.{Shape}
use Rattle.board_core.specs.declared.account.Account.{Account}
use Rattle.board_core.specs.Loaded.{IsPage, page_word}
use Rattle.board_core.specs.Steps.{MayStoreOwn}
use Rattle.board.proofs.Tied.{same_table, of_shape, of_both}
use Rattle.board.proofs.TreeWords.{page_fits, own_asked, own_seat}
use Rattle.board.proofs.tree.store_own_of.Goals as goal

pub store-requires : goal.store-requires
store-requires g c =
    let page = of_shape (λ (k : Shape). IsPage k c.args.page) _ _ _ c.board.view_is c.requires.may.inside in (
      same_table _ _ _ _ _ _ _ _ _ c.board.view_is c.caller.view_is c.requires.fits,
      page_fits _ _ _ _ _ _ _ c.args.page c.args.place c.board.invariant.1 c.page_place-at.ensures page.0 page.1 c.requires.may.small,
      own_asked _ _ _ _ _ c.args.page c.args.place _ _ _ c.requires.page c.requires.place (c.page_place-at.ensures ∙ ap (λ (k : Shape). page_word k c.args.page c.args.place) (sym c.board.invariant.0))
          (of_both (λ (k : Shape) (a : Account). MayStoreOwn k a c.args.page c.args.place) _ _ _ _ _ _ _ _ _ _ c.board.view_is c.caller.view_is c.board.invariant.0 c.requires.may),
    )

pub invariant_of-caller : goal.invariant_of-caller
invariant_of-caller g c = (own_seat c.caller.inside.seen c.caller.inside.used c.caller.inside.loader c.caller.inside.number c.caller.inside.stock.items c.caller.inside.tails c.caller.inside.next _ _ _ _ _ c.store.ensures.2 record { facts = c.caller.invariant }).facts
