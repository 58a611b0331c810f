use Rattle.std.proofs.Common.{arith}
use Rattle.mol_section.proofs.Outcomes.{length-lines_of}
use Rattle.board_tests.proofs.files.script_of.Goals as goal

pub read_script-requires : goal.read_script-requires
read_script-requires c = omega (arith, length-lines_of c.args.text.now, c.if-text-gt1000000.false)
