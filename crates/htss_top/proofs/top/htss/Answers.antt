use Rattle.std.proofs.Common.{◌≡◌, ℕ, subst, sym, ap, ◌∙◌}
use Rattle.std.specs.Prelude.{Option, Some}
use Rattle.std.specs.Option.{option_map}
use Rattle.command_words.specs.Tasks.{Task, command_task}
use Rattle.command_ends.specs.Ends.{EndsAs, ShelfSeen, SinkSeen}
use Rattle.command_ends.specs.Completeness.{Completes}
use Rattle.command_ends.proofs.Completing.{Completes-ends}
use Rattle.run_command.proofs.Searched.{searched_on}
use Rattle.htss_top.proofs.top.htss.Goals as goal

-- the task that was read is that of the words
completes_as : (task read : Option Task) (shelf shelf_now : ShelfSeen) (out out_now : SinkSeen) (status : ℕ) → read ≡ task → EndsAs read shelf shelf_now out out_now status → Completes task shelf shelf_now out out_now status
completes_as task read shelf shelf_now out out_now status same ends = Completes-ends task shelf shelf_now out out_now status (subst (λ (t : Option Task). EndsAs t shelf shelf_now out out_now status) same ends)

pub returns-in-Ok-Some-Run-clause-completes : goal.returns-in-Ok-Some-Run-clause-completes
returns-in-Ok-Some-Run-clause-completes g c =
    let read = ap (option_map command_task) (c.in-Ok-Some-Run.field-0-is ∙ ap Some c.in-Ok-Some-Run.field-0-0-is) in
    completes_as _ _ _ _ _ _ _ (sym read ∙ c.in-Ok-Some-Run.ensures.task) c.run.ensures.ends

pub returns-in-Ok-Some-Run-clause-read : goal.returns-in-Ok-Some-Run-clause-read
returns-in-Ok-Some-Run-clause-read g c = searched_on _ _ c.run.ensures.read
