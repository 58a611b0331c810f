use Rattle.std.proofs.Common.{refl, [], inl, inr}
use Rattle.std.proofs.lemmas.Result.{err_from_is_err_and, IfErr-weaker}
use Rattle.command_words.specs.Tasks.{find_in}
use Rattle.command_ends.specs.Outcomes.{stop_why}
use Rattle.command_ends.specs.Ends.{seen}
use Rattle.command_ends.proofs.Causes.{IsStopOfFile-earlier, MayStop-of-file}
use Rattle.tool_commands.proofs.commands.find.Goals as goal

pub returns-in_err-asked-clause-stop : goal.returns-in_err-asked-clause-stop
returns-in_err-asked-clause-stop g c =
    let p = err_from_is_err_and c.from_residual.result c.from_residual.ensures.1 in
    let before = seen g.F.Shelf.told g.F.Shelf.absent g.F.Shelf.faults c.args.shelf.now in
    let now = seen g.F.Shelf.told g.F.Shelf.absent g.F.Shelf.faults c.read_asked.new.shelf in
    rw (p.1, p.2) (MayStop-of-file (find_in c.args.sdf.now c.args.query.now c.args.budget) before now [] _ _ (refl, inl refl) refl c.in_err-asked.ensures.stop)

pub returns-in-Ok-clause-stop : goal.returns-in-Ok-clause-stop
returns-in-Ok-clause-stop g c =
    let on = c.in_ok-asked.ensures.goes_on in
    let task = find_in c.args.sdf.now c.args.query.now c.args.budget in
    let before = seen g.F.Shelf.told g.F.Shelf.absent g.F.Shelf.faults c.args.shelf.now in
    let middle = seen g.F.Shelf.told g.F.Shelf.absent g.F.Shelf.faults c.read_asked.new.shelf in
    let now = seen g.F.Shelf.told g.F.Shelf.absent g.F.Shelf.faults c.find_hits.new.shelf in
    let read = rw c.in-Ok.is at c.in_ok-asked.ensures.read in
    IfErr-weaker c.find_hits.result _ _
    (λ stop was. MayStop-of-file task before now [] c.args.sdf.now (stop_why stop) (refl, inr (refl, c.in-Ok.asked, read)) refl (IsStopOfFile-earlier before middle now _ _ on was))
    c.find_hits.ensures.stop
