use Rattle.std.proofs.Common.{◌≡◌, ◌+◌, ◌<◌, Some, ap, sym, subst, arith, ℕ}
use Rattle.htss_defs.specs.declared.shape.Shape.{Shape}
use Rattle.board_core.specs.declared.account.Account.{Account}
use Rattle.board_core.specs.declared.log.Holding.TheVariants.{Fronted}
use Rattle.board_core.specs.LogRule.{word_or_0}
use Rattle.board_core.specs.Steps.{event_by}
use Rattle.board_core.proofs.ShowEvent.{show_allowed}
use Rattle.board.proofs.Tied.{same_table, low_word, of_account, of_both, log_at_most}
use Rattle.board.proofs.steps.advance_front.Goals as goal

pub overflow_add-next : goal.overflow_add-next
overflow_add-next g c =
    let room = of_both (λ (k : Shape) (a : Account). a.log.seen < k.log) _ _ _ _ _ _ _ _ _ _ c.board.view_is c.caller.view_is c.board.invariant.0 c.requires.room in
    let here : c.caller.inside.seen < c.board.inside.shape.log = subst (λ (x : ℕ × Shape). x.0 < x.1.log) (λ i. (sym c.caller.invariant.0 i, c.board.invariant.0 i)) room in
    let most = log_at_most _ c.board.invariant.2 in omega arith

pub store-requires : goal.store-requires
store-requires g c = (
  same_table _ _ _ _ _ _ _ _ _ c.board.view_is c.caller.view_is c.requires.fits,
  low_word _ _ _ _ _ _ 0 c.board.invariant.1 (omega arith),
  show_allowed _ _ _ _ _ _ _ (ap (λ (z : ℕ). z + 1) c.caller.invariant.0)
      record {
        holding = of_account (λ (a : Account). a.log.holding ≡ Fronted) _ _ _ _ _ _ c.caller.view_is c.requires.holding;
        logged = of_account (λ (a : Account). a.log.pending.logged ≡ Some (word_or_0 a.log.pending.logged)) _ _ _ _ _ _ c.caller.view_is c.requires.logged;
      }
      (of_both (λ (k : Shape) (a : Account). event_by k a (word_or_0 a.log.pending.logged) ≡ g.E.Shown.event) _ _ _ _ _ _ _ _ _ _ c.board.view_is c.caller.view_is c.board.invariant.0 c.requires.event),
)
