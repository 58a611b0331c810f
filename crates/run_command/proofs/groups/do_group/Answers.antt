use Rattle.std.proofs.lemmas.Result.{err_from_is_err_and}
use Rattle.script_run.specs.Workers.{accounts_of}
use Rattle.command_ends.specs.Ends.{seen}
use Rattle.run_command.proofs.Running.{any_time_in_group, are_there, done_more, reached_by, reached_here, stops_at_file}
use Rattle.run_command.proofs.groups.do_group.Goals as goal

pub returns-in_err-files-clause-stop : goal.returns-in_err-files-clause-stop
returns-in_err-files-clause-stop g c =
    let p = err_from_is_err_and c.from_residual.result c.from_residual.ensures.1 in
    let before_seen = seen g.F.Shelf.told g.F.Shelf.absent g.F.Shelf.faults c.args.shelf.now in
    let now = seen g.F.Shelf.told g.F.Shelf.absent g.F.Shelf.faults c.read_files.new.shelf in
    let stops = rw c.as_slice.ensures at c.in_err-files.ensures.stop in
    let accounts = accounts_of c.args.workers.now in
    rw (p.1, p.2)
    (λ before after done history end script read.
    stops_at_file before_seen now script before after c.args.group.now c.args.board.now.shape c.args.budget accounts c.args.text.now.items _
    (reached_here c.args.board.now.shape accounts history c.requires.shape end) read done stops)

pub append_group-requires-clause-files : goal.append_group-requires-clause-files
append_group-requires-clause-files g c =
    let have = rw c.as_slice.ensures at c.in_ok-files.ensures.have in
    λ κs outlives. are_there (g.F.Shelf.told c.args.shelf.now) c.in_ok-files.files c.args.group.now.jobs have

pub returns-in-Ok-clause-done : goal.returns-in-Ok-clause-done
returns-in-Ok-clause-done g c =
    λ before after script read done.
    let have = rw c.as_slice.ensures at c.in_ok-files.ensures.have in
    let told = c.in-Ok.ensures.done in
    done_more (g.F.Shelf.told c.args.shelf.now) script before after c.args.group.now c.args.board.now.shape c.args.budget c.in_ok-files.files (accounts_of c.args.workers.now) (accounts_of c.append_group.new.workers) c.args.text.now.items c.append_group.new.text.items told.0 read have told.1 told.3 told.2 done

pub returns-clause-stop : goal.returns-clause-stop
returns-clause-stop g c =
    λ before after done history end script read.
    let accounts = accounts_of c.args.workers.now in
    any_time_in_group (g.F.Shelf.told c.args.shelf.now) script before after c.args.group.now c.args.board.now.shape c.args.budget accounts c.args.text.now.items c.append_group.new.text.items
    (reached_by c.args.board.now.shape accounts (accounts_of c.append_group.new.workers) history c.requires.shape c.in-Err.ensures.broken end) read done c.in-Err.ensures.front
