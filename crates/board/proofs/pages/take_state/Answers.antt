use Rattle.std.proofs.Common.{◌+◌, ◌-◌, ap, sym, ◌∙◌}
use Rattle.htss_defs.specs.declared.shape.Shape.{Shape}
use Rattle.board_core.specs.declared.account.Account.{Account}
use Rattle.board_core.specs.Words.{states_at}
use Rattle.board_core.specs.Loaded.{IsPage}
use Rattle.board_core.specs.Steps.{MayTakePage}
use Rattle.board.specs.Seated.{number_in}
use Rattle.board.proofs.Tied.{same_table, of_shape, of_both}
use Rattle.board.proofs.PageWords.{state_word, page_asked}
use Rattle.board.proofs.Stocks.{page_seat}
use Rattle.board.proofs.pages.take_state.Goals as goal

pub compare_exchange-requires : goal.compare_exchange-requires
compare_exchange-requires g c =
    let page = of_shape (λ (k : Shape). IsPage k c.args.page) _ _ _ c.board.view_is c.requires.may.inside in (
      same_table _ _ _ _ _ _ _ _ _ c.board.view_is c.caller.view_is c.requires.fits,
      state_word _ _ _ _ _ _ _ _ c.board.invariant.1 c.state_place-at.ensures page.0 page.1,
      page_asked _ _ _ _ _ _ _ _ _ c.requires.is (c.state_place-at.ensures ∙ ap (λ (k : Shape). states_at k + (c.args.page - 1)) (sym c.board.invariant.0))
          (of_both (λ (k : Shape) (a : Account). MayTakePage k a (number_in a.who) c.args.page c.args.found) _ _ _ _ _ _ _ _ _ _ c.board.view_is c.caller.view_is c.board.invariant.0 c.requires.may),
    )

pub invariant_of-caller : goal.invariant_of-caller
invariant_of-caller g c = (page_seat c.caller.inside.seen c.caller.inside.used c.caller.inside.loader c.caller.inside.number c.caller.inside.stock.items c.caller.inside.tails c.caller.inside.next _ _ _ _ _ c.compare_exchange.ensures.2 record { facts = c.caller.invariant }).facts
