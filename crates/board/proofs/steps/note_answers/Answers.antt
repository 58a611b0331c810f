use Rattle.std.proofs.Common.{arith}
use Rattle.htss_defs.specs.declared.shape.Shape.{Shape}
use Rattle.board_core.specs.declared.account.Account.{Account}
use Rattle.board_core.specs.Steps.{AreTrue}
use Rattle.board_core.proofs.AddEntries.{answer_allowed}
use Rattle.board_core.proofs.Boards.{on_board}
use Rattle.board.proofs.Tied.{same_shape, same_table, low_word, of_both}
use Rattle.board.proofs.steps.note_answers.Goals as goal

pub load-requires : goal.load-requires
load-requires g c = (
  same_table _ _ _ _ _ _ _ _ _ c.board.view_is c.caller.view_is c.requires.fits,
  low_word _ _ _ _ _ _ 1 c.board.invariant.1 (omega arith),
  on_board _ _ _ _ _ (λ n. n) _ _ (same_shape _ _ _ _ _ _ _ _ _ _ c.board.view_is c.caller.view_is c.board.invariant.0 c.requires.fits)
      (answer_allowed _ _ _ _ _ (of_both (λ (k : Shape) (a : Account). AreTrue k a g.E.Answers.entries) _ _ _ _ _ _ _ _ _ _ c.board.view_is c.caller.view_is c.board.invariant.0 c.requires.answers)),
)
