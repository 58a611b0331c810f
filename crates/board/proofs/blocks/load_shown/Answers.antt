use Rattle.std.proofs.Common.{◌+◌, ◌^◌, ◌<◌, refl, arith}
use Rattle.htss_defs.specs.declared.shape.Shape.{Shape}
use Rattle.board_core.specs.declared.account.Account.{Account}
use Rattle.board_core.specs.Loaded.{KnowsRow, IsInTable}
use Rattle.board_core.proofs.LoadBlock.{shown_allowed}
use Rattle.board.proofs.Tied.{same_table, of_shape, of_both}
use Rattle.board.proofs.NextWord.{block_fits, block_word}
use Rattle.board.proofs.blocks.load_shown.Goals as goal

pub overflow_add-at : goal.overflow_add-at
overflow_add-at c = let small : c.args.block + 1 < 2 ^ 40 = block_fits c.board.inside.shape _ 1 c.board.invariant.2 (omega arith) (of_shape (λ (k : Shape). IsInTable k c.args.block) _ _ _ c.board.view_is c.requires.place) in omega arith

pub load-requires : goal.load-requires
load-requires c = (
  same_table _ _ _ _ _ _ _ _ _ c.board.view_is c.caller.view_is c.requires.fits,
  block_word _ c.args.block 1 _ c.board.invariant.1 (omega arith) (of_shape (λ (k : Shape). IsInTable k c.args.block) _ _ _ c.board.view_is c.requires.place),
  shown_allowed _ _ _ _ c.args.block _ refl (of_both (λ (k : Shape) (a : Account). KnowsRow a c.args.block) _ _ _ _ _ _ _ _ _ _ c.board.view_is c.caller.view_is c.board.invariant.0 c.requires.known),
)
