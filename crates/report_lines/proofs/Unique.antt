-- No two lines of a report have the same text.
use Rattle.std.proofs.Common.{◌≡◌, ◌++◌, sym, ◌∙◌}
use Rattle.std.proofs.lemmas.Option.{same_Some}
use Rattle.report_lines.specs.declared.line.Line.{Line}
use Rattle.report_lines.specs.Lines.{IsLine, line_text}
use Rattle.report_lines.proofs.Bodies.{line_rest, line_whole, line_word}
use Rattle.report_lines.proofs.ReadAgain.{line_reads, read_again}

pub one_line : (a b : Line) → IsLine a → IsLine b → line_text a ≡ line_text b → a ≡ b
one_line a b is_a is_b same =
    same_Some a b (sym (line_reads a is_a) ∙ read_again (line_word a ++ line_rest a) b is_b (sym same ∙ line_whole a))
