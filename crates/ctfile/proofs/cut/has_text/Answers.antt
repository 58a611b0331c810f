use Rattle.std.proofs.Common.{sym, ap, ◌∙◌}
use Rattle.std.specs.Prelude.{not}
use Rattle.ctfile.proofs.LinesOf.{has_text-here, has_text-next, has_text-last}
use Rattle.ctfile.proofs.cut.has_text.Goals as goal

pub returns-then-not-is_blank : goal.returns-then-not-is_blank
returns-then-not-is_blank c =
    sym (c.loop-line.invariant ∙ has_text-here _ c.in-Some.line.now c.in-Some.after.now c.in-Some.ensures.line c.in-Some.ensures.parts (sym c.is_blank.ensures ∙ c.if-not-is_blank.true))

pub loop-line-preserved : goal.loop-line-preserved
loop-line-preserved c =
    c.loop-line.invariant ∙ has_text-next _ c.in-Some.line.now c.in-Some.after.now c.in-Some.ensures.line c.in-Some.ensures.parts (sym c.is_blank.ensures ∙ c.if-not-is_blank.false)

pub returns : goal.returns
returns c = ap not c.is_blank-2.ensures ∙ sym (c.loop-line.invariant ∙ has_text-last _ c.in_default.ensures.none)
