use Rattle.std.proofs.Common.{sym, ap, subst, ◌∙◌}
use Rattle.std.specs.Prelude.{Some}
use Rattle.command_words.specs.Tasks.{command_task, make_of}
use Rattle.command_ends.specs.Ends.{EndsAs, seen, seen_out, without_waiting}
use Rattle.command_ends.proofs.Endings.{EndsAs-unread}
use Rattle.tool_commands.proofs.commands.do_command.Goals as goal

pub returns-else-summary : goal.returns-else-summary
returns-else-summary g c =
    let shelf = seen g.F.Shelf.told g.F.Shelf.absent g.F.Shelf.faults c.args.shelf.now in
    let out = seen_out g.K.Sink.written g.K.Sink.faults c.args.out.now in
    let out_now = seen_out g.K.Sink.written g.K.Sink.faults c.make.new.out in
    let task = ap command_task c.in-Make.is ∙ ap (make_of c.in-Make.count c.in-Make.seed) c.if-summary.false in
    record {
      ends = subst (λ t. EndsAs (without_waiting (Some t)) shelf shelf out out_now c.make.result) (sym task) (EndsAs-unread _ shelf out out_now c.make.result c.make.ensures.ends c.make.ensures.later);
    }
