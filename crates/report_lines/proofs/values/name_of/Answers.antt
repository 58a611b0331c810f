use Rattle.report_lines.proofs.Parts.{named_is}
use Rattle.report_lines.proofs.values.name_of.Goals as goal

pub returns : goal.returns
returns c = named_is c.args.bytes.now c.new.result c.new.ensures.valid c.new.ensures.value
