use Rattle.std.proofs.Common.{◌+◌, ◌-◌, ap, sym, ◌∙◌}
use Rattle.htss_defs.specs.declared.shape.Shape.{Shape}
use Rattle.board_core.specs.declared.account.Account.{Account}
use Rattle.board_core.specs.Words.{states_at}
use Rattle.board_core.specs.Loaded.{IsPage}
use Rattle.board_core.specs.Steps.{MayRetire}
use Rattle.board.proofs.Tied.{same_table, of_shape, of_both}
use Rattle.board.proofs.PageWords.{state_word, retire_asked}
use Rattle.board.proofs.Stocks.{retire_seat}
use Rattle.board.proofs.pages.retire_with.Goals as goal

pub store-requires : goal.store-requires
store-requires g c =
    let page = of_shape (λ (k : Shape). IsPage k c.args.page) _ _ _ c.board.view_is c.requires.may.inside in (
      same_table _ _ _ _ _ _ _ _ _ c.board.view_is c.caller.view_is c.requires.fits,
      state_word _ _ _ _ _ _ _ _ c.board.invariant.1 c.state_place-at.ensures page.0 page.1,
      retire_asked _ _ _ _ _ c.args.stamp _ _ c.requires.is (c.state_place-at.ensures ∙ ap (λ (k : Shape). states_at k + (c.args.page - 1)) (sym c.board.invariant.0))
          (of_both (λ (k : Shape) (a : Account). MayRetire k a c.args.page c.args.stamp) _ _ _ _ _ _ _ _ _ _ c.board.view_is c.caller.view_is c.board.invariant.0 c.requires.may),
    )

pub invariant_of-caller : goal.invariant_of-caller
invariant_of-caller g c = (retire_seat c.caller.inside.seen c.caller.inside.used c.caller.inside.loader c.caller.inside.number c.caller.inside.stock.items c.caller.inside.tails c.caller.inside.next g.P.Paged.page _ _ c.store.ensures.2 record { facts = c.caller.invariant }).facts
