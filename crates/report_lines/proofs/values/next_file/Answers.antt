use Rattle.std.proofs.Common.{sym, ◌∙◌}
use Rattle.report_lines.proofs.Parts.{file_name_made, word_seen}
use Rattle.report_lines.proofs.values.next_file.Goals as goal

pub returns-then-is_file_name-clause-valid : goal.returns-then-is_file_name-clause-valid
returns-then-is_file_name-clause-valid c =
    file_name_made c.in_ok-word.word.now (word_seen c.args.text.now (c.in_ok-word.word.now, c.in_ok-word.rest.now) c.in_ok-word.ensures)
    (sym c.is_file_name.ensures ∙ c.if-is_file_name.true)
