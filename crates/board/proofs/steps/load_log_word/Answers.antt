use Rattle.std.proofs.Common.{◌^◌, ◌+◌, ◌-◌, ◌<◌, ◌≤◌, ap, ◌∙◌, sym, subst, arith, ℕ}
use Rattle.htss_defs.specs.declared.shape.Shape.{Shape}
use Rattle.board_core.specs.declared.account.Account.{Account}
use Rattle.board_core.specs.Words.{log_at}
use Rattle.board_core.proofs.LoadLog.{log_allowed}
use Rattle.board.proofs.Tied.{same_table, log_word, log_place_fits, less_one, of_account, of_shape, stays}
use Rattle.board.proofs.steps.load_log_word.Goals as goal

pub load-requires : goal.load-requires
load-requires c = (
  same_table _ _ _ _ _ _ _ _ _ c.board.view_is c.caller.view_is c.requires.fits,
  subst (λ (z : ℕ). z + (c.args.number - 1) < c.board.inside.table.shared.table_id.words) (sym c.log_place.ensures)
      (log_word _ _ _ _ _ _ _ c.board.invariant.1 (less_one _ _ c.requires.number.0 (of_shape (λ (k : Shape). c.args.number ≤ k.log) _ _ _ c.board.view_is c.requires.room))),
  log_allowed _ _ _ _ (c.args.number - 1) _ (ap (λ (z : ℕ). z + (c.args.number - 1)) (c.log_place.ensures ∙ ap log_at (sym c.board.invariant.0)))
      (less_one _ _ c.requires.number.0 (of_account (λ (a : Account). c.args.number ≤ a.log.seen) _ _ _ _ _ _ c.caller.view_is c.requires.number.1))
      (stays _ _ _ c.caller.invariant.1),
)

pub overflow_add-at : goal.overflow_add-at
overflow_add-at c = let small : c.log_place.result + (c.args.number - 1) < 2 ^ 64 = log_place_fits _ _ _ c.log_place.ensures c.board.invariant.2 (less_one _ _ c.requires.number.0 (of_shape (λ (k : Shape). c.args.number ≤ k.log) _ _ _ c.board.view_is c.requires.room)) in omega arith
