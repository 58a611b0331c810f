use Rattle.std.proofs.Common.{◌≤◌, ◌∙◌, subst, arith}
use Rattle.htss_defs.specs.declared.shape.Shape.{Shape}
use Rattle.board_core.proofs.LoadFront.{front_allowed}
use Rattle.board.proofs.Tied.{same_table, same_shape, low_word, stays, log_at_most}
use Rattle.board.proofs.steps.load_front.Goals as goal

pub load-front-requires : goal.load-front-requires
load-front-requires c = (
  same_table _ _ _ _ _ _ _ _ _ c.board.view_is c.caller.view_is c.requires,
  low_word _ _ _ _ _ _ 0 c.board.invariant.1 (omega arith),
  front_allowed _ _ _ _ (stays _ _ _ c.caller.invariant.1),
)

pub overflow_cast-caller : goal.overflow_cast-caller
overflow_cast-caller c =
    let same = same_shape _ _ _ _ _ _ _ _ _ _ c.board.view_is c.caller.view_is c.board.invariant.0 c.requires ∙ c.board.invariant.0 in
    let front : c.load-front.result ≤ c.board.inside.shape.log = subst (λ (k : Shape). c.load-front.result ≤ k.log) same c.load-front.ensures.2.in_log in
    let most = log_at_most _ c.board.invariant.2 in omega arith
