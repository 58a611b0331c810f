use Rattle.std.proofs.Common.{Err, ap}
use Rattle.command_ends.specs.Ends.{seen_out}
use Rattle.tool_commands.proofs.Making.{made_cut, made_stopped, made_whole}
use Rattle.tool_commands.proofs.generate.make.Goals as goal

pub returns-in-Ok-clause-ends : goal.returns-in-Ok-clause-ends
returns-in-Ok-clause-ends g c =
    made_whole c.args.count c.args.seed (seen_out g.K.Sink.written g.K.Sink.faults c.args.out.now) (seen_out g.K.Sink.written g.K.Sink.faults c.make_file.new.out) c.in-Ok.ensures.ok

pub returns-in-Err-WriteFault-clause-ends : goal.returns-in-Err-WriteFault-clause-ends
returns-in-Err-WriteFault-clause-ends g c =
    made_cut c.args.count c.args.seed (seen_out g.K.Sink.written g.K.Sink.faults c.args.out.now) (seen_out g.K.Sink.written g.K.Sink.faults c.make_file.new.out)
    (c.in-Err-WriteFault.ensures.fault (ap Err c.in-Err-WriteFault.field-0-is)) c.in-Err-WriteFault.ensures.err

pub returns-in-Err-OutOfMemory-clause-ends : goal.returns-in-Err-OutOfMemory-clause-ends
returns-in-Err-OutOfMemory-clause-ends g c =
    made_stopped c.args.count c.args.seed (seen_out g.K.Sink.written g.K.Sink.faults c.args.out.now) (seen_out g.K.Sink.written g.K.Sink.faults c.make_file.new.out)
    (seen_out g.K.Sink.written g.K.Sink.faults c.write_stopped.new.out) c.write_stopped.result c.in-Err-OutOfMemory.ensures.err c.make_file.ensures.later c.write_stopped.ensures.written
