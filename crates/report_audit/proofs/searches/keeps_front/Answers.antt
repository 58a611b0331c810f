use Rattle.std.proofs.Common.{arith}
use Rattle.report_rules.specs.Faults.{line_by}
use Rattle.report_audit.proofs.Keeping.{as_long, is_next}
use Rattle.report_audit.proofs.searches.keeps_front.Goals as goal

pub returns-then-front-told-clause-fault : goal.returns-then-front-told-clause-fault
returns-then-front-told-clause-fault c = λ no s earlier one answer next kept.
    let within = kept.within in
    absurd (omega (arith, c.if-front-told.true, within, as_long c.args.told.now c.args.so_far.now c.args.caller s earlier one next))

pub returns-clause-kept : goal.returns-clause-kept
returns-clause-kept c = λ yes s earlier one answer next. record {
  within = omega (arith, c.if-front-told.false, as_long c.args.told.now c.args.so_far.now c.args.caller s earlier one next);
  later = c.is_search_front.ensures.front yes earlier (line_by one answer) (is_next c.args.told.now c.args.so_far.now c.args.caller s earlier one answer next) next.lines.tally;
}

pub returns-clause-fault : goal.returns-clause-fault
returns-clause-fault c = λ no s earlier one answer next kept.
    c.is_search_front.ensures.short no earlier (line_by one answer) (is_next c.args.told.now c.args.so_far.now c.args.caller s earlier one answer next) next.lines.tally kept.later
