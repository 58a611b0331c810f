use Rattle.std.proofs.Common.{◌≡◌}
use Rattle.board_core.specs.Blocks.{first_of}
use Rattle.block_words.specs.Writing.{written}
use Rattle.board.specs.Seated.{with_account}
use Rattle.loader.specs.Stages.{after_words}
use Rattle.loader.proofs.stages.store_front.Given as goal

abbrev pub invariant-loop-index : goal.invariant-loop-index
invariant-loop-index l = record {
  writer : l.writer ≡ l.fn.writer;
  caller : l.caller ≡ with_account l.fn.caller (after_words l.fn.caller.account (first_of (written l.fn.writer.name l.fn.writer.mol) l.index));
}
