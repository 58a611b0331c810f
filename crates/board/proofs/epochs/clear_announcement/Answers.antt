use Rattle.board_core.proofs.Announce.{unpin_allowed}
use Rattle.board.proofs.Tied.{same_table, same_shape}
use Rattle.board.proofs.PageWords.{announce_at, announce_word}
use Rattle.board.proofs.epochs.clear_announcement.Goals as goal

pub store-requires : goal.store-requires
store-requires c =
    let same = same_shape _ _ _ _ _ _ _ _ _ _ c.board.view_is c.caller.view_is c.board.invariant.0 c.requires in
    let place = announce_at _ _ _ _ _ _ _ c.board.invariant.0 same c.caller.invariant.1 c.announcement_place-at.ensures c.caller.invariant.5 in (
      same_table _ _ _ _ _ _ _ _ _ c.board.view_is c.caller.view_is c.requires,
      announce_word _ _ _ _ _ _ _ _ c.board.invariant.1 place.0 place.1 place.2,
      unpin_allowed _ _ _ _ _ _ place.0 place.1,
    )
