use Rattle.std.proofs.Common.{subst}
use Rattle.htss_defs.specs.declared.shape.Shape.{Shape}
use Rattle.command_words.specs.Tasks.{run_of}
use Rattle.command_ends.specs.Outcomes.{stop_why}
use Rattle.command_ends.specs.Ends.{MayStop, seen}
use Rattle.script_run.specs.Workers.{accounts_of}
use Rattle.run_command.specs.Runs.{HasDone, HasEnd}
use Rattle.run_command.proofs.Closed.{closed_back, end_back}
use Rattle.run_command.proofs.Running.{any_time_at_the_end, reached_here, run_is, run_reads}
use Rattle.run_command.proofs.whole_run.run_script.Goals as goal

pub returns-in-Err-outcome-clause-stop : goal.returns-in-Err-outcome-clause-stop
returns-in-Err-outcome-clause-stop g c =
    λ script read.
    let before = seen g.F.Shelf.told g.F.Shelf.absent g.F.Shelf.faults c.args.shelf.now in
    let now = seen g.F.Shelf.told g.F.Shelf.absent g.F.Shelf.faults c.run_groups-outcome.new.shelf in
    let end = end_back c.in-Ok.opened.0 c.in-Ok.opened.1.len c.run_groups-outcome.new.workers c.in-Ok.opened.1.items
    c.in-Ok.opened.1.ok.0 c.in-Ok.ensures.callers c.run_groups-outcome.ensures.callers c.close-last.result.history c.close-last.ensures.end in
    subst (λ (k : Shape). MayStop (run_of script k c.args.budget) before now c.run_groups-outcome.new.text.items (stop_why c.in-Err-outcome.stop)) c.in-Ok.ensures.shape
    (c.in-Err-outcome.ensures.stop c.close-last.result.history end script read)

pub returns-in-Ok-append_history-clause-text : goal.returns-in-Ok-append_history-clause-text
returns-in-Ok-append_history-clause-text g c =
    λ script read.
    let told = g.F.Shelf.told c.args.shelf.now in
    let accounts = accounts_of c.run_groups-outcome.new.workers in
    let closed = closed_back c.in-Ok.opened.0 c.in-Ok.opened.1.len c.run_groups-outcome.new.workers c.in-Ok.opened.1.items
    c.in-Ok.opened.1.ok.0 c.in-Ok.ensures.callers c.run_groups-outcome.ensures.callers c.args.shape c.close-last.result c.in-Ok.ensures.shape
    c.close-last.ensures.shape c.close-last.ensures.accounts c.close-last.ensures.end c.close-last.ensures.settled c.close-last.ensures.shown in
    let done = subst (λ (k : Shape). HasDone told c.args.groups.now k c.args.budget accounts c.run_groups-outcome.new.text.items) c.in-Ok.ensures.shape
    (c.in-Ok-outcome.ensures.done script read) in
    run_is told script c.args.groups.now c.args.shape c.args.budget accounts c.run_groups-outcome.new.text.items c.append_history.new.text.items c.close-last.result
    c.requires.shape closed read c.in-Ok-append_history.ensures.ok done

pub returns-in-Ok-append_history-clause-read : goal.returns-in-Ok-append_history-clause-read
returns-in-Ok-append_history-clause-read g c =
    λ script read.
    let told = g.F.Shelf.told c.args.shelf.now in
    let accounts = accounts_of c.run_groups-outcome.new.workers in
    let closed = closed_back c.in-Ok.opened.0 c.in-Ok.opened.1.len c.run_groups-outcome.new.workers c.in-Ok.opened.1.items
    c.in-Ok.opened.1.ok.0 c.in-Ok.ensures.callers c.run_groups-outcome.ensures.callers c.args.shape c.close-last.result c.in-Ok.ensures.shape
    c.close-last.ensures.shape c.close-last.ensures.accounts c.close-last.ensures.end c.close-last.ensures.settled c.close-last.ensures.shown in
    let done = subst (λ (k : Shape). HasDone told c.args.groups.now k c.args.budget accounts c.run_groups-outcome.new.text.items) c.in-Ok.ensures.shape
    (c.in-Ok-outcome.ensures.done script read) in
    run_reads told c.args.groups.now c.args.shape c.args.budget accounts c.run_groups-outcome.new.text.items
    c.close-last.result c.requires.shape closed done

pub returns-clause-stop : goal.returns-clause-stop
returns-clause-stop g c =
    λ script read.
    let told = g.F.Shelf.told c.args.shelf.now in
    let accounts = accounts_of c.run_groups-outcome.new.workers in
    let end = end_back c.in-Ok.opened.0 c.in-Ok.opened.1.len c.run_groups-outcome.new.workers c.in-Ok.opened.1.items
    c.in-Ok.opened.1.ok.0 c.in-Ok.ensures.callers c.run_groups-outcome.ensures.callers c.close-last.result.history c.close-last.ensures.end in
    let here = subst (λ (k : Shape). HasEnd k accounts c.close-last.result.history) c.in-Ok.ensures.shape end in
    let done = subst (λ (k : Shape). HasDone told c.args.groups.now k c.args.budget accounts c.run_groups-outcome.new.text.items) c.in-Ok.ensures.shape
    (c.in-Ok-outcome.ensures.done script read) in
    rw c.in-Err-append_history.ensures.err
    (any_time_at_the_end told script c.args.groups.now c.args.shape c.args.budget accounts c.run_groups-outcome.new.text.items
    (reached_here c.args.shape accounts c.close-last.result.history c.requires.shape here) read done)
