use Rattle.report_lines.proofs.Numerals.{name_utf8}
use Rattle.report_lines.proofs.values.file_name.Goals as goal

pub text_of-requires : goal.text_of-requires
text_of-requires c = name_utf8 c.args.word.now c.requires
