use Rattle.std.proofs.Common.{ℕ, ◌+◌, ◌∙◌, ap, arith}
use Rattle.report_rules.specs.Dealing.{dealt}
use Rattle.report_audit.proofs.Auditing.{line_fits, rule_fault, unsaturated}
use Rattle.report_audit.proofs.Founds.{some_at}
use Rattle.report_audit.proofs.turns.take_blocks.Goals as goal

pub returns-in-Some-clause-fault : goal.returns-in-Some-clause-fault
returns-in-Some-clause-fault c = λ script s are has.
    let blocks = c.args.turns.now.blocks.now in
    let index = c.loop-index.index in
    let offset = c.in-Some.offset in
    let fault = (some_at _ offset _ c.in-Some.is c.in_ok-offset.ensures.fault) script s are (c.loop-index.invariant script s are has).0 in
    let fits = line_fits s (dealt s.shape 1 script) blocks index offset fault in
    rule_fault s (dealt s.shape 1 script) blocks index offset _ fault
    ((unsaturated _ _ _ c.saturating_add.ensures (omega (arith, fits, c.requires.lines, c.line_before.ensures))) ∙ ap (λ (n : ℕ). n + offset) c.line_before.ensures)
