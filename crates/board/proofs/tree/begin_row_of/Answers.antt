use Rattle.std.proofs.Common.{◌+◌, ◌≤◌}
use Rattle.htss_defs.specs.declared.shape.Shape.{Shape}
use Rattle.board_core.specs.declared.account.Account.{Account}
use Rattle.board_core.specs.Steps.{MayLoadOwn}
use Rattle.board_core.specs.Blocks.{block_size}
use Rattle.board_core.specs.Words.{total_of}
use Rattle.board.proofs.Tied.{same_table, same_shape, of_shape, of_both}
use Rattle.board.proofs.NextWord.{block_small, code_inside}
use Rattle.board.proofs.TreeWords.{begin_asked}
use Rattle.board.proofs.tree.begin_row_of.Goals as goal

pub code_place-at-requires-clause-block : goal.code_place-at-requires-clause-block
code_place-at-requires-clause-block g c = block_small c.board.inside.shape _ _ c.board.invariant.2 (of_shape (λ (k : Shape). c.args.block + block_size c.args.head ≤ total_of k) _ _ _ c.board.view_is c.requires.place)

pub code_place-at-requires-clause-code : goal.code_place-at-requires-clause-code
code_place-at-requires-clause-code g c = c.requires.may.code_is

pub load-requires : goal.load-requires
load-requires g c = (
  same_table _ _ _ _ _ _ _ _ _ c.board.view_is c.caller.view_is c.requires.fits,
  code_inside _ c.args.block c.args.head c.args.atom c.args.code _ c.board.inside.shape c.board.invariant.1 (of_shape (λ (k : Shape). c.args.block + block_size c.args.head ≤ total_of k) _ _ _ c.board.view_is c.requires.place) c.code_place-at.ensures c.requires.atom.0 c.requires.atom.1 c.requires.may.code_is,
  begin_asked _ _ _ _ c.args.head c.args.code _ _ record { block = c.args.block; atom = c.args.atom } _ c.requires.row c.requires.which c.code_place-at.ensures (of_both (λ (k : Shape) (a : Account). MayLoadOwn k a (record { block = c.args.block; atom = c.args.atom }) c.args.head c.args.code) _ _ _ _ _ _ _ _ _ _ c.board.view_is c.caller.view_is c.board.invariant.0 c.requires.may)
      (same_shape _ _ _ _ _ _ _ _ _ _ c.board.view_is c.caller.view_is c.board.invariant.0 c.requires.fits),
)
