use Rattle.std.proofs.Common.{refl, []}
use Rattle.std.proofs.lemmas.Result.{err_from_is_err_and}
use Rattle.command_words.specs.Tasks.{check_of}
use Rattle.command_ends.specs.Ends.{seen}
use Rattle.command_ends.proofs.Causes.{MayStop-of-file}
use Rattle.tool_commands.proofs.commands.check.Goals as goal

pub returns-in_err-read_list-clause-stop : goal.returns-in_err-read_list-clause-stop
returns-in_err-read_list-clause-stop g c =
    let p = err_from_is_err_and c.from_residual.result c.from_residual.ensures.1 in
    let before = seen g.F.Shelf.told g.F.Shelf.absent g.F.Shelf.faults c.args.shelf.now in
    let now = seen g.F.Shelf.told g.F.Shelf.absent g.F.Shelf.faults c.read_list.new.shelf in
    rw (p.1, p.2) (MayStop-of-file (check_of c.args.sdf.now) before now [] _ _ (refl, refl) refl c.in_err-read_list.ensures.stop)
