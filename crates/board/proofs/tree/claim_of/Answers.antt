use Rattle.std.proofs.Common.{ℕ, ◌≤◌, ap, sym, ◌∙◌}
use Rattle.htss_defs.specs.declared.shape.Shape.{Shape}
use Rattle.board_core.specs.declared.account.Account.{Account}
use Rattle.board_core.specs.Loaded.{IsPage, page_word}
use Rattle.board_core.specs.Steps.{MayClaim, after_claim}
use Rattle.board_core.specs.MarkRule.{IsAmong}
use Rattle.board_core.specs.Sheets.{owns}
use Rattle.board.specs.Seated.{Seated}
use Rattle.board.proofs.Tied.{same_table, same_shape, of_shape, of_both, of_seated}
use Rattle.board.proofs.TreeWords.{page_fits, claim_seat, claimed_seen}
use Rattle.board_core.proofs.ClaimWord.{claim_word_allowed, claim_inside}
use Rattle.board.proofs.tree.claim_of.Goals as goal

pub compare_exchange-requires : goal.compare_exchange-requires
compare_exchange-requires g c =
    let inside = claim_inside _ _ _ _ _ _ c.requires.may in
    let page = of_shape (λ (k : Shape). IsPage k c.args.page) _ _ _ c.board.view_is inside.0 in (
      same_table _ _ _ _ _ _ _ _ _ c.board.view_is c.caller.view_is c.requires.fits,
      page_fits _ _ _ _ _ _ _ c.args.page c.args.place c.board.invariant.1 c.page_place-at.ensures page.0 page.1 inside.1,
      claim_word_allowed _ _ _ c.args.page c.args.place c.args.word _ _ g.C.Claims.claim (c.page_place-at.ensures ∙ ap (λ (k : Shape). page_word k c.args.page c.args.place) (sym c.board.invariant.0))
          (same_shape _ _ _ _ _ _ _ _ _ _ c.board.view_is c.caller.view_is c.board.invariant.0 c.requires.fits)
          (of_both (λ (k : Shape) (a : Account). MayClaim k a c.args.page c.args.place c.args.word g.C.Claims.claim) _ _ _ _ _ _ _ _ _ _ c.board.view_is c.caller.view_is c.board.invariant.0 c.requires.may),
    )

pub invariant_of-caller : goal.invariant_of-caller
invariant_of-caller g c = (claim_seat g.C.Claims.claim c.caller.inside.seen c.caller.inside.used c.caller.inside.loader c.caller.inside.number c.caller.inside.stock.items c.caller.inside.tails c.caller.inside.next _ _ _ _ c.compare_exchange.ensures.2
    (of_seated (λ (x : Seated). (p : ℕ) → IsAmong x.stock p → owns p x.account.pool.own ≤ owns p (after_claim x.account g.C.Claims.claim).pool.own) _ _ _ _ _ _ c.caller.view_is c.requires.stock) record { facts = c.caller.invariant }).facts

pub returns : goal.returns
returns g c = claimed_seen g.C.Claims.claim c.args.board.now _ _ _ _ _ _ _ _ _ c.caller.view_is c.requires.fits c.compare_exchange.ensures.0 c.compare_exchange.ensures.2
