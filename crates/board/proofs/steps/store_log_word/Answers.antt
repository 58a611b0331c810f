use Rattle.std.proofs.Common.{◌^◌, ◌+◌, ◌<◌, ap, ◌∙◌, sym, subst, arith, ℕ}
use Rattle.htss_defs.specs.declared.shape.Shape.{Shape}
use Rattle.board_core.specs.declared.account.Account.{Account}
use Rattle.board_core.specs.Words.{log_at}
use Rattle.board_core.specs.Steps.{MayLog}
use Rattle.board_core.proofs.StoreEvent.{event_allowed}
use Rattle.board.specs.Seated.{number_in}
use Rattle.board.proofs.Tied.{same_table, log_word, log_place_fits, of_both}
use Rattle.board.proofs.steps.store_log_word.Goals as goal

pub store-requires : goal.store-requires
store-requires c =
    let may = of_both (λ (k : Shape) (a : Account). MayLog k a (number_in a.who) c.args.word) _ _ _ _ _ _ _ _ _ _ c.board.view_is c.caller.view_is c.board.invariant.0 c.requires.may in
    let room : c.caller.inside.seen < c.board.inside.shape.log = subst (λ (x : ℕ × Shape). x.0 < x.1.log) (λ i. (sym c.caller.invariant.0 i, c.board.invariant.0 i)) may.room in (
      same_table _ _ _ _ _ _ _ _ _ c.board.view_is c.caller.view_is c.requires.fits,
      subst (λ (z : ℕ). z + c.caller.inside.seen < c.board.inside.table.shared.table_id.words) (sym c.log_place.ensures) (log_word _ _ _ _ _ _ _ c.board.invariant.1 room),
      event_allowed _ _ _ _ _ _ _ (λ i. (c.log_place.ensures ∙ ap log_at (sym c.board.invariant.0)) i + c.caller.invariant.0 i) may,
    )

pub overflow_add-at : goal.overflow_add-at
overflow_add-at c =
    let may = of_both (λ (k : Shape) (a : Account). MayLog k a (number_in a.who) c.args.word) _ _ _ _ _ _ _ _ _ _ c.board.view_is c.caller.view_is c.board.invariant.0 c.requires.may in
    let room : c.caller.inside.seen < c.board.inside.shape.log = subst (λ (x : ℕ × Shape). x.0 < x.1.log) (λ i. (sym c.caller.invariant.0 i, c.board.invariant.0 i)) may.room in
    let small : c.log_place.result + c.caller.inside.seen < 2 ^ 64 = log_place_fits _ _ _ c.log_place.ensures c.board.invariant.2 room in omega arith
