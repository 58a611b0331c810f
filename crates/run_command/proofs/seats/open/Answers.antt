use Rattle.std.proofs.Common.{◌≡◌, ◌+◌, List, length, ap, subst, sym, ◌∙◌}
use Rattle.htss_defs.specs.declared.shape.Shape.{Shape}
use Rattle.board.specs.Seated.{Seated}
use Rattle.board.specs.Seated as seated
use Rattle.board_jobs.specs.Groups.{AreNew}
use Rattle.script_run.specs.Workers.{accounts_of}
use Rattle.run_command.proofs.Running.{new_accounts}
use Rattle.run_command.proofs.seats.open.Goals as goal

pub returns-clause-new : goal.returns-clause-new
returns-clause-new c =
    let b = c.in-Ok.opened.0 in
    let workers = c.in_ok-workers.workers.items in
    let shape = c.in-Ok.ensures.shape in
    let same = c.in_ok-workers.ensures in
    let count = ap length same ∙ subst (λ (k : Shape). length c.in-Ok.opened.1.items ≡ k.loaders + k.searchers) (sym shape) c.in-Ok.ensures.count in
    subst (λ (k : Shape). AreNew k (accounts_of workers)) shape (new_accounts b workers count (subst (λ (l : List Seated). seated.AreNew b l) (sym same) c.in-Ok.ensures.callers))
