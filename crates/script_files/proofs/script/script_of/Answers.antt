use Rattle.std.proofs.Common.{length, ap, arith}
use Rattle.mol_section.proofs.Outcomes.{length-lines_of}
use Rattle.script_files.proofs.script.script_of.Goals as goal

pub read_script-requires : goal.read_script-requires
read_script-requires g c = omega (arith, length-lines_of c.deref.result.now, ap length c.deref.ensures.value, c.in_ok-bytes.ensures.read.within)
