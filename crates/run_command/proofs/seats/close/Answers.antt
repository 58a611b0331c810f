use Rattle.std.proofs.Common.{◌≡◌, ◌+◌, List, length, map, sym, ap, subst, ◌∙◌, arith}
use Rattle.htss_defs.specs.declared.shape.Field.TheVariants.{Loaders}
use Rattle.board_core.specs.Each.{Each}
use Rattle.board.specs.Seated.{IsAtRest, Seated, account_of}
use Rattle.script_run.specs.Workers.{callers_of}
use Rattle.run_command.proofs.Running.{at_rest, closed_with}
use Rattle.run_command.proofs.seats.close.Goals as goal

pub gather-last-requires-clause-count : goal.gather-last-requires-clause-count
gather-last-requires-clause-count c = subst (λ (l : List Seated). length l ≡ c.args.board.shape.loaders + c.args.board.shape.searchers) (sym c.callers_back.ensures) c.requires.callers.count

pub gather-last-requires-clause-callers : goal.gather-last-requires-clause-callers
gather-last-requires-clause-callers c = subst (λ (l : List Seated). Each (IsAtRest c.args.board) l) (sym c.callers_back.ensures) (at_rest c.args.board (callers_of c.args.workers.items) c.requires.callers)

pub returns : goal.returns
returns c =
    let closed = closed_with c.args.board c.args.workers.items c.gather-last.result c.requires.callers c.gather-last.ensures.shape (c.gather-last.ensures.accounts ∙ ap (map account_of) c.callers_back.ensures) c.is_settled.ensures.settled c.is_settled.ensures.shown in
    record { shape = closed.shape_is; accounts = closed.accounts_are; end = closed.end; settled = closed.settled; shown = closed.shown }
