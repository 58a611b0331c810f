use Rattle.htss_defs.specs.declared.shape.Shape.{Shape}
use Rattle.board_core.specs.declared.account.Account.{Account}
use Rattle.board_core.specs.Rows.{block_named}
use Rattle.board_core.specs.Loaded.{IsInTable}
use Rattle.board_core.specs.Met.{HasMet}
use Rattle.board.proofs.Tied.{same_table, of_shape, of_account, stays}
use Rattle.board.proofs.NextWord.{first_inside}
use Rattle.board.proofs.MetWords.{head_asked}
use Rattle.board.proofs.met.load_met_head_of.Goals as goal

pub load-requires : goal.load-requires
load-requires g c = (
  same_table _ _ _ _ _ _ _ _ _ c.board.view_is c.caller.view_is c.requires.fits,
  first_inside _ _ _ c.board.invariant.1 (of_shape (λ (k : Shape). IsInTable k (block_named c.args.entry)) _ _ _ c.board.view_is c.requires.place),
  head_asked _ _ _ _ c.args._number c.args._index c.args.entry _ c.requires.is (of_account (λ (a : Account). HasMet a c.args._number c.args._index c.args.entry) _ _ _ _ _ _ c.caller.view_is c.requires.met) (stays _ _ _ c.caller.invariant.1),
)
