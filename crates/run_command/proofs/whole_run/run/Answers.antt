use Rattle.std.proofs.Common.{ℕ, [], refl, sym, subst}
use Rattle.std.specs.Prelude.{Some}
use Rattle.command_words.specs.Tasks.{run_of}
use Rattle.command_ends.specs.Outcomes.{stop_why}
use Rattle.command_ends.specs.Ends.{EndsAs, seen, seen_out}
use Rattle.command_ends.proofs.Endings.{EndsAs-stopped}
use Rattle.run_command.specs.Headline.{IsLastOf}
use Rattle.run_command.proofs.Lasts.{last_of_stop}
use Rattle.script_files.proofs.Rising.{script_groups_rise}
use Rattle.run_command.proofs.whole_run.run.Goals as goal

pub returns-in-Err-clause-ends : goal.returns-in-Err-clause-ends
returns-in-Err-clause-ends g c =
    let task = run_of c.args.script.now c.args.shape c.args.budget in
    let shelf = seen g.F.Shelf.told g.F.Shelf.absent g.F.Shelf.faults c.args.shelf.now in
    let shelf_now = seen g.F.Shelf.told g.F.Shelf.absent g.F.Shelf.faults c.script_of.new.shelf in
    let out = seen_out g.K.Sink.written g.K.Sink.faults c.args.out.now in
    let out_now = seen_out g.K.Sink.written g.K.Sink.faults c.write_stopped.new.out in
    subst (λ (status : ℕ). EndsAs (Some task) shelf shelf_now out out_now status) (sym c.without_board.ensures.status)
    (EndsAs-stopped task shelf shelf_now out out_now c.write_stopped.result [] (stop_why c.in-Err.stop)
    (c.in-Err.ensures.stop task refl) c.write_stopped.ensures.written c.script_of.ensures.goes_on c.write_stopped.ensures.later)

pub returns-in-Err-clause-last : goal.returns-in-Err-clause-last
returns-in-Err-clause-last g c =
    let told = g.F.Shelf.told c.args.shelf.now in
    let out = seen_out g.K.Sink.written g.K.Sink.faults c.args.out.now in
    let out_now = seen_out g.K.Sink.written g.K.Sink.faults c.write_stopped.new.out in
    subst (λ (status : ℕ). IsLastOf told c.args.script.now c.args.shape c.args.budget out out_now status c.without_board.result.last) (sym c.without_board.ensures.status)
    (last_of_stop told c.args.script.now c.args.shape c.args.budget out out_now c.write_stopped.result [] (stop_why c.in-Err.stop) c.without_board.result.last
    c.write_stopped.ensures.written c.without_board.ensures.last)

pub run_script-requires-clause-rising : goal.run_script-requires-clause-rising
run_script-requires-clause-rising g c = rw c.as_slice.ensures (λ κs outlives. script_groups_rise (g.F.Shelf.told c.args.shelf.now) c.args.script.now c.in-Ok.script.groups c.in-Ok.ensures.read)
