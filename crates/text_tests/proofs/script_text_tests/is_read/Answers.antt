use Rattle.std.proofs.Common.{arith}
use Rattle.mol_section.proofs.Outcomes.{length-lines_of}
use Rattle.text_tests.proofs.script_text_tests.is_read.Goals as goal

pub read_script-requires : goal.read_script-requires
read_script-requires c = omega (arith, length-lines_of c.args.script.now, c.if-script-gt10000.false)
