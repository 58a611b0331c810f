use Rattle.std.proofs.Common.{ap, arith}
use Rattle.board.specs.Seated.{Told}
use Rattle.board.proofs.Tied.{same_table, same_board, low_word}
use Rattle.board_core.proofs.JoinNote.{note_joins}
use Rattle.board.proofs.notes.hear.Goals as goal

pub join_seat-requires : goal.join_seat-requires
join_seat-requires c = (
  same_table _ _ _ _ _ _ _ _ _ c.board.view_is c.caller.view_is c.requires.fits,
  same_board _ _ _ _ _ c.board.view_is (ap (λ (x : Told). x.table) c.note.view_is) c.requires.note,
  c.note.invariant.1,
  low_word _ _ _ _ _ _ 0 c.board.invariant.1 (omega arith),
  note_joins _ _ _ _ _ _ c.note.invariant.0,
)
