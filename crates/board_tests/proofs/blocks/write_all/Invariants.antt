use Rattle.std.proofs.Common.{◌≡◌, ℕ, ◌<◌, length, slice_index}
use Rattle.block_words.specs.Writing.{size_of, written}
use Rattle.board_tests.proofs.blocks.write_all.Given as goal

abbrev pub invariant-loop-index : goal.invariant-loop-index
invariant-loop-index l = record {
  writer : l.writer ≡ l.fn.writer;
  size : length l.words ≡ size_of l.fn.writer.name l.fn.writer.mol;
  words : (i : ℕ) → i < l.index → slice_index l.words i ≡ written l.fn.writer.name l.fn.writer.mol i;
}
