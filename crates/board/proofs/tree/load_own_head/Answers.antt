use Rattle.std.proofs.Common.{◌<◌, arith}
use Rattle.htss_defs.specs.declared.shape.Shape.{Shape}
use Rattle.board_core.specs.declared.account.Account.{Account}
use Rattle.board_core.specs.Words.{total_of}
use Rattle.board_core.specs.RoomRule.{IsSealed}
use Rattle.board_core.proofs.LoadOwnCode.{own_head_allowed}
use Rattle.board.proofs.Tied.{same_table, same_shape, of_shape, of_account}
use Rattle.board.proofs.tree.load_own_head.Goals as goal

pub load-requires : goal.load-requires
load-requires c =
    let inside = of_shape (λ (k : Shape). c.args.block < total_of k) _ _ _ c.board.view_is c.requires.place in
    let words = c.board.invariant.1 in (
      same_table _ _ _ _ _ _ _ _ _ c.board.view_is c.caller.view_is c.requires.fits,
      omega arith,
      own_head_allowed _ _ _ _ _ (of_account (λ (a : Account). IsSealed a.room.sealed c.args.block) _ _ _ _ _ _ c.caller.view_is c.requires.sealed)
          (same_shape _ _ _ _ _ _ _ _ _ _ c.board.view_is c.caller.view_is c.board.invariant.0 c.requires.fits),
    )
