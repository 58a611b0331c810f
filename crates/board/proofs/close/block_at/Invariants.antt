use Rattle.std.proofs.Common.{◌≡◌}
use Rattle.std.specs.Mem.Slots.{slots_items}
use Rattle.board_core.specs.Blocks.{first_of}
use Rattle.board.specs.Closed.{words_from}
use Rattle.board.proofs.close.block_at.Given as goal

abbrev pub invariant-loop-i : goal.invariant-loop-i
invariant-loop-i l = l.words.items ≡ first_of (words_from (slots_items l.closed.words) l.place) l.i
