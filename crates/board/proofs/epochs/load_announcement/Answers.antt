use Rattle.std.proofs.Common.{◌+◌, ◌<◌, refl}
use Rattle.htss_defs.specs.declared.shape.Shape.{Shape}
use Rattle.board_core.specs.declared.account.Account.{Account}
use Rattle.board_core.specs.Steps.{MayPass}
use Rattle.board_core.proofs.PassCaller.{pass_allowed}
use Rattle.board.proofs.Tied.{same_table, of_both, of_shape}
use Rattle.board.proofs.PageWords.{pass_word}
use Rattle.board.proofs.epochs.load_announcement.Goals as goal

pub load-requires : goal.load-requires
load-requires c = (
  same_table _ _ _ _ _ _ _ _ _ c.board.view_is c.caller.view_is c.requires.fits,
  pass_word _ _ _ _ _ _ _ c.board.invariant.1 (of_shape (λ (k : Shape). c.args.index < k.loaders + k.searchers) _ _ _ c.board.view_is c.requires.may.inside),
  pass_allowed _ _ _ c.args.index _ _ refl (of_both (λ (k : Shape) (a : Account). MayPass k a c.args.index) _ _ _ _ _ _ _ _ _ _ c.board.view_is c.caller.view_is c.board.invariant.0 c.requires.may),
)
