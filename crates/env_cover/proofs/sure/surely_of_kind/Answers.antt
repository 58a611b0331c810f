use Rattle.std.proofs.Common.{sym, ◌∙◌, arith}
use Rattle.env_cover.proofs.Sureness.{surely-all, surely-fails, sure-more, sure-kind, sure-other, not-sure}
use Rattle.env_cover.proofs.sure.surely_of_kind.Goals as goal
use Rattle.env_cover.proofs.sure.surely_of_kind.Goals.{else-allows-via-then-allows+else-not-is_of_kind, else-allows-via-else-allows}

pub loop-element-preserved : goal.loop-element-preserved
loop-element-preserved c = sure-more c.args.test c.args.lane c.loop-element.element c.loop-element.invariant (elim c.else-allows.branch [
  | else-allows-via-then-allows+else-not-is_of_kind w ↦ sure-kind c.args.test c.args.lane c.loop-element.element (sym w.is_of_kind.ensures ∙ w.if-not-is_of_kind.false)
  | else-allows-via-else-allows w ↦ sure-other c.args.test c.args.lane c.loop-element.element (sym c.allows.ensures ∙ w.if-allows.false)
])

pub returns : goal.returns
returns c = sym (surely-all c.args.test c.args.lane (λ x low high. c.loop-element.invariant x low (omega arith)))

pub returns-then-not-is_of_kind : goal.returns-then-not-is_of_kind
returns-then-not-is_of_kind c = sym (surely-fails c.args.test c.args.lane c.loop-element.element (omega arith) c.loop-element-test.true (not-sure c.args.test c.args.lane c.loop-element.element (sym c.allows.ensures ∙ c.if-allows.true) (sym c.is_of_kind.ensures ∙ c.if-not-is_of_kind.true)))
