use Rattle.std.specs.Mem.Slots.{slots_items}
use Rattle.board.proofs.ClosedPages.{state_read}
use Rattle.board.proofs.close.Final.page_state.Goals as goal

pub returns : goal.returns
returns c = state_read c.self.inside.shape (slots_items c.self.inside.closed.words) c.self.inside.last.value.me.0 c.args.self.now c.args.page _ _ c.self.view_is c.requires c.state_place.ensures c.word.ensures
