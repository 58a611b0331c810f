use Rattle.std.proofs.Common.{sym, ◌∙◌}
use Rattle.std.proofs.lemmas.Result.{err_from_is_err_and, on_ok_weaker, IfErr-weaker}
use Rattle.mol_section.specs.Lines.{lines_of}
use Rattle.mol_section.specs.Walk.{Stops, IsStopOf}
use Rattle.mol_section.specs.declared.draft.Part.TheVariants.{End}
use Rattle.mol_section.proofs.Walking.{property_fault, passed_line, passing_line, due_property, property_stop, property_line, due_end, end_stop, end_line}
use Rattle.mol_section.proofs.blocks.read_properties.Goals as goal

pub returns-in_err-line-clause-stop : goal.returns-in_err-line-clause-stop
returns-in_err-line-clause-stop g c =
    let p = err_from_is_err_and c.from_residual.result c.from_residual.ensures.1 in
    rw (p.1, p.2) (property_fault c.loop-line.passing c.in_err-line.field-0.0 c.loop-line.invariant c.in_err-line.ensures.fault)

pub loop-line-preserved-then-passing : goal.loop-line-preserved-then-passing
loop-line-preserved-then-passing g c =
    let at = rw c.if-passing.true at c.loop-line.invariant in
    rw c.in_ok-line.ensures.passed (passed_line c.in_ok-line.ensures.line (g.met.D.Draft.plain _ _).1 c.in_ok-line.ensures.short at)

pub take-requires : goal.take-requires
take-requires g c =
    let at = rw c.if-passing.false at c.loop-line.invariant in
    record { due = (_, _, at.parts, at.kept, due_end c.in_ok-line.ensures.line (sym c.starts_with.ensures.value ∙ c.if-starts_with.true) at) }

pub returns-then-starts_with-clause-read : goal.returns-then-starts_with-clause-read
returns-then-starts_with-clause-read g c =
    let at = rw c.if-passing.false at c.loop-line.invariant in
    on_ok_weaker c.take.result (end_line c.in_ok-line.ensures.line (sym c.starts_with.ensures.value ∙ c.if-starts_with.true) at c.in_ok-line.ensures.short) c.take.ensures.taken

pub returns-then-starts_with-clause-stop : goal.returns-then-starts_with-clause-stop
returns-then-starts_with-clause-stop g c =
    let at = rw c.if-passing.false at c.loop-line.invariant in
    IfErr-weaker c.take.result (Stops g.D.Draft.refusals (g.D.Draft.holds c.loop-line.draft) End c.in_ok-line.line.now c.loop-line.graph c.loop-line.lines.passed) (IsStopOf g.D.Draft.refusals (lines_of c.args.bytes.now))
    (λ stop. end_stop c.in_ok-line.ensures.line (sym c.starts_with.ensures.value ∙ c.if-starts_with.true) at stop c.in_ok-line.ensures.short) c.take.ensures.stop

pub loop-line-preserved-then-passes_next : goal.loop-line-preserved-then-passes_next
loop-line-preserved-then-passes_next g c =
    let at = rw c.if-passing.false at c.loop-line.invariant in
    rw c.in_ok-line.ensures.passed (passing_line c.in_ok-line.ensures.line (sym c.starts_with.ensures.value ∙ c.if-starts_with.false) (sym c.passes_next.ensures ∙ c.if-passes_next.true) (g.met.D.Draft.plain _ _).1 c.in_ok-line.ensures.short at)

pub take-requires-else-passes_next : goal.take-requires-else-passes_next
take-requires-else-passes_next g c =
    let at = rw c.if-passing.false at c.loop-line.invariant in
    record { due = (_, _, at.parts, at.kept, due_property c.in_ok-line.ensures.line (sym c.starts_with.ensures.value ∙ c.if-starts_with.false) (sym c.passes_next.ensures ∙ c.if-passes_next.false) at) }

pub loop-line-preserved : goal.loop-line-preserved
loop-line-preserved g c =
    let at = rw c.if-passing.false at c.loop-line.invariant in
    rw (c.in_ok-line.ensures.passed, c.if-passing.false)
    (property_line c.in_ok-line.ensures.line (sym c.starts_with.ensures.value ∙ c.if-starts_with.false) (sym c.passes_next.ensures ∙ c.if-passes_next.false) at c.in_ok-line.ensures.short c.in_ok-take.ensures.taken)

pub returns-in_err-take-clause-stop : goal.returns-in_err-take-clause-stop
returns-in_err-take-clause-stop g c =
    let at = rw c.if-passing.false at c.loop-line.invariant in
    let p = err_from_is_err_and c.from_residual-in_err-take.result c.from_residual-in_err-take.ensures.1 in
    rw (p.1, p.2) (property_stop c.in_ok-line.ensures.line (sym c.starts_with.ensures.value ∙ c.if-starts_with.false) (sym c.passes_next.ensures ∙ c.if-passes_next.false) at c.in_err-take.field-0.0 c.in_ok-line.ensures.short c.in_err-take.ensures.stop)
