use Rattle.std.proofs.Common.{◌+◌, ◌^◌, ◌<◌, ◌≤◌, refl, arith}
use Rattle.htss_defs.specs.declared.shape.Shape.{Shape}
use Rattle.board_core.specs.declared.account.Account.{Account}
use Rattle.board_core.specs.Loaded.{KnowsHead}
use Rattle.board_core.specs.Blocks.{block_size}
use Rattle.board_core.specs.Words.{total_of}
use Rattle.board_core.proofs.LoadBlock.{fact_allowed}
use Rattle.board.proofs.Tied.{same_table, of_shape, of_both, stays}
use Rattle.board.proofs.NextWord.{word_inside, word_fits}
use Rattle.board.proofs.blocks.load_fact.Goals as goal

pub overflow_add-at : goal.overflow_add-at
overflow_add-at c = let small : c.args.block + c.args.word < 2 ^ 40 = word_fits c.board.inside.shape _ _ _ c.board.invariant.2 (of_shape (λ (k : Shape). c.args.block + block_size c.args.head ≤ total_of k) _ _ _ c.board.view_is c.requires.place) c.requires.word.1 in omega arith

pub load-requires : goal.load-requires
load-requires c = (
  same_table _ _ _ _ _ _ _ _ _ c.board.view_is c.caller.view_is c.requires.fits,
  word_inside _ c.args.block (block_size c.args.head) c.args.word c.board.inside.shape c.board.invariant.1 (of_shape (λ (k : Shape). c.args.block + block_size c.args.head ≤ total_of k) _ _ _ c.board.view_is c.requires.place) c.requires.word.1,
  fact_allowed _ _ _ _ c.args.block c.args.head c.args.word _ refl (of_both (λ (k : Shape) (a : Account). KnowsHead k a c.args.block c.args.head) _ _ _ _ _ _ _ _ _ _ c.board.view_is c.caller.view_is c.board.invariant.0 c.requires.known) c.requires.word.0 c.requires.word.1 (stays _ _ _ c.caller.invariant.1),
)
