use Rattle.report_lines.proofs.LinesMean.{none_answer, some_answer}
use Rattle.report_lines.proofs.reading.read_line.Goals as goal

pub returns-clause-some : goal.returns-clause-some
returns-clause-some c = some_answer c.args.text.now c.line_of.result c.line_of.ensures

pub returns-clause-none : goal.returns-clause-none
returns-clause-none c = none_answer c.args.text.now c.line_of.result c.line_of.ensures
