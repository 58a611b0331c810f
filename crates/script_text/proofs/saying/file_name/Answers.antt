use Rattle.script_text.proofs.Numerals.{name_utf8}
use Rattle.script_text.proofs.saying.file_name.Goals as goal

pub text_of-requires : goal.text_of-requires
text_of-requires c = name_utf8 _ c.requires
