use Rattle.std.proofs.Common.{arith}
use Rattle.board.proofs.Tied.{same_table, low_word, stays}
use Rattle.board_core.proofs.SplitNote.{note_splits}
use Rattle.board.proofs.notes.note.Goals as goal

pub split_seat-seat-requires : goal.split_seat-seat-requires
split_seat-seat-requires c = (
  same_table _ _ _ _ _ _ _ _ _ c.board.view_is c.caller.view_is c.requires.fits,
  low_word _ _ _ _ _ _ 0 c.board.invariant.1 (omega arith),
  note_splits _ _ _ (stays _ _ _ c.caller.invariant.1),
)
