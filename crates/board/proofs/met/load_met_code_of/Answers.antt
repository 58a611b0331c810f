use Rattle.std.proofs.Common.{◌+◌, ◌≤◌}
use Rattle.htss_defs.specs.declared.shape.Shape.{Shape}
use Rattle.board_core.specs.declared.account.Account.{Account}
use Rattle.board_core.specs.Blocks.{block_size}
use Rattle.board_core.specs.Words.{total_of}
use Rattle.board_core.specs.Rows.{block_named, atom_named}
use Rattle.board_core.specs.Met.{MayLoadMet}
use Rattle.board.proofs.Tied.{same_table, of_shape, of_account, stays}
use Rattle.board.proofs.NextWord.{block_small, code_inside}
use Rattle.board.proofs.MetWords.{met_code_asked}
use Rattle.board.proofs.met.load_met_code_of.Goals as goal

pub code_place-at-requires-clause-block : goal.code_place-at-requires-clause-block
code_place-at-requires-clause-block g c = block_small c.board.inside.shape _ _ c.board.invariant.2 (of_shape (λ (k : Shape). block_named c.args.entry + block_size c.args.head ≤ total_of k) _ _ _ c.board.view_is c.requires.place)

pub code_place-at-requires-clause-code : goal.code_place-at-requires-clause-code
code_place-at-requires-clause-code g c = c.requires.may.few

pub load-requires : goal.load-requires
load-requires g c = (
  same_table _ _ _ _ _ _ _ _ _ c.board.view_is c.caller.view_is c.requires.fits,
  code_inside _ (block_named c.args.entry) c.args.head (atom_named c.args.entry) c.args.code _ c.board.inside.shape c.board.invariant.1 (of_shape (λ (k : Shape). block_named c.args.entry + block_size c.args.head ≤ total_of k) _ _ _ c.board.view_is c.requires.place) c.code_place-at.ensures c.requires.atom.0 c.requires.atom.1 c.requires.may.few,
  met_code_asked _ _ _ _ _ c.args._number c.args._index c.args.entry c.args.head c.args.code _ _ c.requires.is c.code_place-at.ensures (of_account (λ (a : Account). MayLoadMet a c.args._number c.args._index c.args.entry c.args.head c.args.code) _ _ _ _ _ _ c.caller.view_is c.requires.may) c.requires.atom.0 c.requires.atom.1 (stays _ _ _ c.caller.invariant.1),
)
