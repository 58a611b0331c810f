use Rattle.std.proofs.Common.{◌≡◌, ℕ, ◌+◌, ◌≤◌, ◌∙◌, sym, subst, arith}
use Rattle.board_core.specs.declared.account.Account.{Account}
use Rattle.board_core.specs.declared.account.Who.TheVariants.{Loader}
use Rattle.board_core.specs.Words.{total_of}
use Rattle.board.specs.Seated.{number_in}
use Rattle.board.proofs.Tied.{same_shape, of_account, loader_is}
use Rattle.board.proofs.NextWord.{region_end, total_small, loader_within}
use Rattle.board.proofs.regions.next_place.Goals as goal

pub overflow_add-result : goal.overflow_add-result
overflow_add-result c =
    let who = loader_is _ _ _ c.caller.invariant.1 (of_account (λ (a : Account). a.who ≡ Loader (number_in a.who)) _ _ _ _ _ _ c.caller.view_is c.requires.loader) in
    let same = same_shape _ _ _ _ _ _ _ _ _ _ c.board.view_is c.caller.view_is c.board.invariant.0 c.requires.fits ∙ c.board.invariant.0 in
    let limits = loader_within c.board.inside.shape c.caller.inside.seat.me.0.shape c.caller.inside.seat.me.0.me c.caller.inside.number same who c.caller.invariant.5 in
    let end : c.region_place-at.result + c.board.inside.shape.room ≤ total_of c.board.inside.shape = subst (λ (z : ℕ). z + c.board.inside.shape.room ≤ total_of c.board.inside.shape) (sym c.region_place-at.ensures) (region_end c.board.inside.shape c.caller.inside.number limits) in
    let small = total_small _ c.board.invariant.2 in omega arith
