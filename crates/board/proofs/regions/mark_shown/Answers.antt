use Rattle.std.proofs.Common.{ℕ, ◌+◌, ◌^◌, ◌<◌, ap, arith}
use Rattle.htss_defs.specs.declared.shape.Shape.{Shape}
use Rattle.board_core.specs.declared.account.Account.{Account}
use Rattle.board_core.specs.Loaded.{IsInTable}
use Rattle.board_core.specs.Steps.{MayPublish}
use Rattle.board.proofs.Tied.{same_table, of_shape, of_key, of_both}
use Rattle.board.proofs.NextWord.{block_word, block_fits, next_fits, shows_asked}
use Rattle.board.proofs.regions.mark_shown.Goals as goal

pub overflow_add-next : goal.overflow_add-next
overflow_add-next g c =
    let may = of_both (λ (k : Shape) (a : Account). MayPublish k a c.args.block) _ _ _ _ _ _ _ _ _ _ c.board.view_is c.caller.view_is c.board.invariant.0 c.requires.may in
    let small : c.caller.inside.seen + 1 < 2 ^ 32 = next_fits _ _ _ _ c.board.invariant.0 c.board.invariant.2 may.may c.caller.invariant.0 in omega arith

pub overflow_add-at : goal.overflow_add-at
overflow_add-at g c = let small : c.args.block + 1 < 2 ^ 40 = block_fits c.board.inside.shape _ 1 c.board.invariant.2 (omega arith) (of_shape (λ (k : Shape). IsInTable k c.args.block) _ _ _ c.board.view_is c.requires.place) in omega arith

pub store-requires : goal.store-requires
store-requires g c =
    let may = of_both (λ (k : Shape) (a : Account). MayPublish k a c.args.block) _ _ _ _ _ _ _ _ _ _ c.board.view_is c.caller.view_is c.board.invariant.0 c.requires.may in (
      same_table _ _ _ _ _ _ _ _ _ c.board.view_is c.caller.view_is c.requires.fits,
      block_word _ c.args.block 1 _ c.board.invariant.1 (omega arith) (of_shape (λ (k : Shape). IsInTable k c.args.block) _ _ _ c.board.view_is c.requires.place),
      shows_asked _ _ _ _ c.args.block _ _ c.requires.is
          (of_key (λ (k : Shape). IsInTable k c.args.block) _ _ _ _ c.board.view_is c.board.invariant.0 c.requires.place)
          (ap (λ (z : ℕ). z + 1) c.caller.invariant.0) may,
    )
