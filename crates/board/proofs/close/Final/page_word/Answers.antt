use Rattle.std.specs.Mem.Slots.{slots_items}
use Rattle.board.proofs.ClosedPages.{page_read}
use Rattle.board.proofs.close.Final.page_word.Goals as goal

pub returns : goal.returns
returns c = page_read c.self.inside.shape (slots_items c.self.inside.closed.words) c.self.inside.last.value.me.0 c.args.self.now c.args.page c.args.place _ _ c.self.view_is c.requires.page c.requires.place c.page_place.ensures c.word.ensures
