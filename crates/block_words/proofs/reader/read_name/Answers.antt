use Rattle.std.proofs.Common.{slice_index, ◌∙◌, arith}
use Rattle.std.proofs.lemmas.List.{length-set}
use Rattle.board_core.specs.Blocks.{byte_of}
use Rattle.block_words.proofs.Reading.{set_more}
use Rattle.block_words.proofs.reader.read_name.Goals as goal

pub loop-index-preserved : goal.loop-index-preserved
loop-index-preserved c = record {
  size = length-set c.loop-index.bytes c.loop-index.index c.byte_at.result ∙ c.loop-index.invariant.size;
  are = set_more (byte_of (slice_index c.args.words.now)) c.loop-index.bytes c.loop-index.index c.byte_at.result (omega arith) c.loop-index.invariant.are c.byte_at.ensures;
}
