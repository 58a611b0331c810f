use Rattle.std.proofs.Common.{sym, ◌∙◌}
use Rattle.script_text.proofs.Words.{plain_words}
use Rattle.script_text.proofs.saying.saying_of.Goals as goal

pub words_say-requires : goal.words_say-requires
words_say-requires c = plain_words _ (sym c.is_plain.ensures ∙ c.if-not-is_plain.false)
