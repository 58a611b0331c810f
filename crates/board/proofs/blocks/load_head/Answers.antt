use Rattle.htss_defs.specs.declared.shape.Shape.{Shape}
use Rattle.board_core.specs.declared.account.Account.{Account}
use Rattle.board_core.specs.Loaded.{KnowsBlock, IsInTable}
use Rattle.board_core.proofs.LoadBlock.{head_allowed}
use Rattle.board.proofs.Tied.{same_table, of_shape, of_both, stays}
use Rattle.board.proofs.NextWord.{first_inside}
use Rattle.board.proofs.blocks.load_head.Goals as goal

pub load-requires : goal.load-requires
load-requires c = (
  same_table _ _ _ _ _ _ _ _ _ c.board.view_is c.caller.view_is c.requires.fits,
  first_inside _ _ _ c.board.invariant.1 (of_shape (λ (k : Shape). IsInTable k c.args.block) _ _ _ c.board.view_is c.requires.place),
  head_allowed _ _ _ _ _ (of_both (λ (k : Shape) (a : Account). KnowsBlock k a c.args.block) _ _ _ _ _ _ _ _ _ _ c.board.view_is c.caller.view_is c.board.invariant.0 c.requires.known) (stays _ _ _ c.caller.invariant.1),
)
