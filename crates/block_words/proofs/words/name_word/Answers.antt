use Rattle.std.proofs.Common.{◌∙◌}
use Rattle.block_words.proofs.Fields.{name_word_is}
use Rattle.block_words.proofs.words.name_word.Goals as goal

pub returns : goal.returns
returns c = c.from_le_bytes.ensures ∙ name_word_is c.args.bytes.now c.args.from _ _ _ _ _ _ _ _ c.byte_or_0.ensures c.byte_or_0-2.ensures c.byte_or_0-3.ensures c.byte_or_0-4.ensures c.byte_or_0-5.ensures c.byte_or_0-6.ensures c.byte_or_0-7.ensures c.byte_or_0-8.ensures
