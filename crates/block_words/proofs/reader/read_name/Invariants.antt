use Rattle.std.proofs.Common.{◌≡◌, length, take, slice_index}
use Rattle.board_core.specs.Blocks.{first_of, byte_of}
use Rattle.block_words.proofs.reader.read_name.Given as goal

abbrev pub invariant-loop-index : goal.invariant-loop-index
invariant-loop-index l = record {
  size : length l.bytes ≡ 128;
  are : take l.index l.bytes ≡ first_of (byte_of (slice_index l.words)) l.index;
}
