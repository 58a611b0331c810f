use Rattle.std.proofs.Common.{◌≡◌, ◌+◌, ◌*◌, ◌≤◌, ap, sym, ◌∙◌, subst, arith}
use Rattle.htss_defs.specs.declared.shape.Shape.{Shape}
use Rattle.board_core.specs.declared.account.Account.{Account}
use Rattle.board_core.specs.Each.{Each}
use Rattle.board_core.specs.MarkRule.{IsAmong}
use Rattle.board_core.specs.Loaded.{IsPage, page_word}
use Rattle.board_core.specs.After.{visited}
use Rattle.board_core.specs.Steps.{MayExchangeLeaf}
use Rattle.board.specs.Seated.{Seated}
use Rattle.board.proofs.Tied.{same_table, same_shape, of_shape, of_account, of_both, of_seated}
use Rattle.board.proofs.TreeWords.{page_fits}
use Rattle.board.proofs.Exchanged.{chains_two, exchange_asked, exchange_seat, exchange_seen}
use Rattle.board.proofs.exchange.exchange_leaf_of.Goals as goal

pub compare_exchange-requires : goal.compare_exchange-requires
compare_exchange-requires g c =
    let may = of_both (λ (k : Shape) (a : Account). MayExchangeLeaf k a c.args.number c.args.index c.args.code c.args.leaf_number c.args.numbers.now c.args.first) _ _ _ _ _ _ _ _ _ _ c.board.view_is c.caller.view_is c.board.invariant.0 c.requires.may in
    let page = of_account (λ (a : Account). (visited a.tree.reached c.args.number).page ≡ c.args.page) _ _ _ _ _ _ c.caller.view_is c.requires.page in
    let leaf = of_account (λ (a : Account). (visited a.tree.reached c.args.leaf_number).page ≡ c.args.leaf) _ _ _ _ _ _ c.caller.view_is c.requires.leaf in
    let inside = of_shape (λ (k : Shape). IsPage k c.args.page) _ _ _ c.board.view_is (subst (IsPage c.args.board.now.shape) c.requires.page c.requires.may.load.visit.inside) in
    let at = c.page_place-at.ensures ∙ ap (λ (k : Shape). page_word k c.args.page (3 + 2 * c.args.index)) (sym c.board.invariant.0) in (
      same_table _ _ _ _ _ _ _ _ _ c.board.view_is c.caller.view_is c.requires.fits,
      page_fits _ _ _ _ _ _ _ c.args.page (3 + 2 * c.args.index) c.board.invariant.1 c.page_place-at.ensures inside.0 inside.1 (let small = c.requires.small in omega arith),
      exchange_asked _ _ _ c.args.number c.args.index c.args.code c.args.leaf_number c.args.leaf c.args.first c.args.page _ c.args.numbers.now _ _ c.requires.is at page leaf c.requires.small
          (subst (λ (k : Shape). 2 ≤ k.chain) (sym c.board.invariant.0) (chains_two _ c.board.invariant.2)) (same_shape _ _ _ _ _ _ _ _ _ _ c.board.view_is c.caller.view_is c.board.invariant.0 c.requires.fits) may,
    )

pub invariant_of-caller : goal.invariant_of-caller
invariant_of-caller g c = (exchange_seat _ _ c.caller.inside.seen c.caller.inside.used c.caller.inside.loader c.caller.inside.number c.caller.inside.stock.items c.caller.inside.tails c.caller.inside.next _ _ _ _ c.requires.is c.compare_exchange.ensures.2
    (of_seated (λ (x : Seated). Each (λ n. ¬ (IsAmong x.stock n)) c.args.numbers.now) _ _ _ _ _ _ c.caller.view_is c.requires.free) record { facts = c.caller.invariant }).facts

pub returns : goal.returns
returns g c =
    let seen = exchange_seen _ _ c.args.board.now _ _ _ _ _ _ _ _ _ c.requires.is c.caller.view_is c.requires.fits c.compare_exchange.ensures.0 c.compare_exchange.ensures.2 in
    record { won = seen.won; lost = seen.lost; page = seen.page }
