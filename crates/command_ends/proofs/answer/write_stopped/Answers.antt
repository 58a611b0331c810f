use Rattle.std.proofs.Common.{◌≤◌, refl, inr, arith}
use Rattle.outside.specs.Causes.{Rose}
use Rattle.command_ends.specs.Outcomes.{fault_line, stop_why}
use Rattle.command_ends.proofs.Writing.{GrewByFront-after, GrewByFront-longer}
use Rattle.command_ends.proofs.answer.write_stopped.Goals as goal

pub returns-in-Err-clause-written : goal.returns-in-Err-clause-written
returns-in-Err-clause-written g c = inr (refl, c.in-Err.ensures.failed, GrewByFront-longer _ _ _ (fault_line (stop_why c.args.stop)) c.in-Err.ensures.err)

pub returns-in-Err-write_stop-clause-written : goal.returns-in-Err-write_stop-clause-written
returns-in-Err-write_stop-clause-written g c =
    let first : g.K.Sink.faults c.args.out.now ≤ g.K.Sink.faults c.write_whole.new.out = c.write_whole.ensures.later in
    let rose : Rose (g.K.Sink.faults c.write_whole.new.out) (g.K.Sink.faults c.write_stop.new.out) = c.in-Err-write_stop.ensures.failed in
    inr (refl, omega arith, GrewByFront-after _ _ _ _ _ c.in-Ok.ensures.ok c.in-Err-write_stop.ensures.err)
