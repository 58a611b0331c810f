use Rattle.std.proofs.Common.{arith}
use Rattle.mol_section.proofs.Outcomes.{length-lines_of}
use Rattle.script_files.proofs.Rising.{script_few_jobs, script_jobs_rise}
use Rattle.audit_command.proofs.command.audit.Goals as goal

pub find-requires-clause-rising : goal.find-requires-clause-rising
find-requires-clause-rising g c = script_jobs_rise (g.F.Shelf.told c.args.shelf.now) c.args.script.now c.in-Ok.groups.groups c.in-Ok.ensures.read

pub find-requires-clause-few : goal.find-requires-clause-few
find-requires-clause-few g c =
    let read = c.in-Ok.ensures.read in
    let few = script_few_jobs (g.F.Shelf.told c.args.shelf.now) c.args.script.now c.in-Ok.groups.groups read in
    omega (arith, few, length-lines_of read.bytes, read.read.within)
