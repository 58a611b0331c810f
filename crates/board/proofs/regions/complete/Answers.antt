use Rattle.std.proofs.Common.{ℕ, ◌+◌, ◌<◌, ◌∙◌, sym, subst, arith}
use Rattle.htss_defs.specs.declared.shape.Shape.{Shape}
use Rattle.board_core.specs.declared.account.Account.{Account}
use Rattle.board_core.specs.Words.{total_of}
use Rattle.board_core.specs.Steps.{MayStore, MaySeal}
use Rattle.board.specs.Seated.{number_in}
use Rattle.board.proofs.Tied.{same_table, same_shape, of_both, loader_is}
use Rattle.board.proofs.NextWord.{next_word, total_small, room_at_most, loader_within, used_less, place_is, seal_asked}
use Rattle.board.proofs.regions.complete.Goals as goal

pub overflow_add-at : goal.overflow_add-at
overflow_add-at g c =
    let may = of_both (λ (k : Shape) (a : Account). MayStore k a (number_in a.who)) _ _ _ _ _ _ _ _ _ _ c.board.view_is c.caller.view_is c.board.invariant.0 c.requires.may in
    let who = loader_is _ _ _ c.caller.invariant.1 may.who in
    let same = same_shape _ _ _ _ _ _ _ _ _ _ c.board.view_is c.caller.view_is c.board.invariant.0 c.requires.fits ∙ c.board.invariant.0 in
    let next : c.region_place.result + c.caller.inside.used < total_of c.board.inside.shape = next_word c.board.inside.shape c.caller.inside.number c.caller.inside.used _ c.region_place.ensures (loader_within c.board.inside.shape c.caller.inside.seat.me.0.shape c.caller.inside.seat.me.0.me c.caller.inside.number same who c.caller.invariant.5) (used_less c.board.inside.shape c.board.inside.table.shared.key c.caller.inside.seat.me.0.me _ c.caller.inside.used c.board.invariant.0 may c.caller.invariant.4) in
    let small = total_small _ c.board.invariant.2 in omega arith

pub store-requires : goal.store-requires
store-requires g c =
    let may = of_both (λ (k : Shape) (a : Account). MayStore k a (number_in a.who)) _ _ _ _ _ _ _ _ _ _ c.board.view_is c.caller.view_is c.board.invariant.0 c.requires.may in
    let who = loader_is _ _ _ c.caller.invariant.1 may.who in
    let same = same_shape _ _ _ _ _ _ _ _ _ _ c.board.view_is c.caller.view_is c.board.invariant.0 c.requires.fits ∙ c.board.invariant.0 in
    let next : c.region_place.result + c.caller.inside.used < total_of c.board.inside.shape = next_word c.board.inside.shape c.caller.inside.number c.caller.inside.used _ c.region_place.ensures (loader_within c.board.inside.shape c.caller.inside.seat.me.0.shape c.caller.inside.seat.me.0.me c.caller.inside.number same who c.caller.invariant.5) (used_less c.board.inside.shape c.board.inside.table.shared.key c.caller.inside.seat.me.0.me _ c.caller.inside.used c.board.invariant.0 may c.caller.invariant.4) in
    let place = place_is c.board.inside.shape c.board.inside.table.shared.key c.caller.inside.seat.me.0.me c.caller.inside.number _ c.caller.inside.used c.board.invariant.0 c.region_place.ensures who c.caller.invariant.4 in (
      same_table _ _ _ _ _ _ _ _ _ c.board.view_is c.caller.view_is c.requires.fits,
      subst (λ (z : ℕ). c.region_place.result + c.caller.inside.used < z) (sym c.board.invariant.1) next,
      seal_asked _ _ _ _ _ _ _ _ _ c.requires.is place may
          (of_both (λ (k : Shape) (a : Account). MaySeal k a c.args.word (record { place = c.args.place; size = c.args.size })) _ _ _ _ _ _ _ _ _ _ c.board.view_is c.caller.view_is c.board.invariant.0 c.requires.seals),
    )

pub overflow_add-caller : goal.overflow_add-caller
overflow_add-caller g c =
    let may = of_both (λ (k : Shape) (a : Account). MayStore k a (number_in a.who)) _ _ _ _ _ _ _ _ _ _ c.board.view_is c.caller.view_is c.board.invariant.0 c.requires.may in
    let less : c.caller.inside.used < c.board.inside.shape.room = used_less c.board.inside.shape c.board.inside.table.shared.key c.caller.inside.seat.me.0.me _ c.caller.inside.used c.board.invariant.0 may c.caller.invariant.4 in
    let most = room_at_most _ c.board.invariant.2 in omega arith
