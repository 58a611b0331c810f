use Rattle.board_core.proofs.Boards.{room_within}
use Rattle.loader.proofs.stages.note_full.Goals as goal

pub returns-clause-within : goal.returns-clause-within
returns-clause-within c = room_within _ _ c.note_with.ensures.before
