use Rattle.std.proofs.Common.{◌≡◌, ℕ, ◌≤◌, ◌∙◌, length, map, max, subst, sym, arith}
use Rattle.report_audit.specs.BlockChecks.{HasLoaded}
use Rattle.told_history.specs.Reads.{outcome_of}
use Rattle.std.proofs.lemmas.List.{length-map}
use Rattle.report_audit.proofs.LoadMore.{has_loaded_none}
use Rattle.report_audit.proofs.loads.take_lines.Goals as goal

pub loop-index-init : goal.loop-index-init
loop-index-init c = λ s earlier one shape next.
    (has_loaded_none c.args.told.now c.args.so_far.now c.args.caller s earlier one (map outcome_of c.args.records.now) c.args.lines.now next, omega arith, omega arith)

pub returns-then-not-take_line-clause-fault : goal.returns-then-not-take_line-clause-fault
returns-then-not-take_line-clause-fault c = λ s earlier one shape next at bytes there are.
    c.take_line.ensures.fault c.if-not-take_line.true s earlier one shape (c.loop-index.invariant s earlier one shape next).0 at bytes there are

pub loop-index-preserved : goal.loop-index-preserved
loop-index-preserved c = λ s earlier one shape next.
    let (line, found, has) = c.take_line.ensures.kept c.if-not-take_line.false s earlier one shape (c.loop-index.invariant s earlier one shape next).0 in
    (has, omega (arith, found), omega (arith, line))

pub returns-clause-kept : goal.returns-clause-kept
returns-clause-kept c = λ s earlier one shape next.
    let (has, records, lines) = c.loop-index.invariant s earlier one shape next in
    let most : max (length c.args.records.now) (length c.args.lines.now) ≤ c.loop-index.index = omega (arith, c.larger-count.ensures, c.loop-index-test.false) in
    let all : c.loop-index.index ≡ length c.args.records.now = grind (arith, most, records) in
    let whole : length c.args.lines.now ≡ length c.args.records.now = grind (arith, most, records, lines, all) in
    let count = length-map c.args.records.now outcome_of in
    (subst (λ (n : ℕ). HasLoaded c.args.told.now c.loop-index.so_far c.args.caller s earlier one (map outcome_of c.args.records.now) c.args.lines.now n) (all ∙ sym count) has, whole ∙ sym count)
