use Rattle.std.proofs.Common.{◌++◌, ◌∷◌, [], inl, refl, arith}
use Rattle.report_rules.specs.Answers.{to_withdrawal}
use Rattle.report_rules.specs.Faults.{line_by}
use Rattle.report_audit.proofs.BlockKept.{kept_withdrawal}
use Rattle.report_audit.proofs.Keeping.{as_long}
use Rattle.report_audit.proofs.LoadMore.{next_noted, own_within}
use Rattle.report_audit.proofs.blocks.take_withdrawal.Goals as goal

pub returns-then-not-keeps_withdrawal-clause-fault : goal.returns-then-not-keeps_withdrawal-clause-fault
returns-then-not-keeps_withdrawal-clause-fault c = λ s earlier one read line shape turn.
    inl (refl, λ mine head. c.keeps_withdrawal.ensures.fault c.if-not-keeps_withdrawal.true s earlier one shape turn.next head)

pub returns-clause-kept : goal.returns-clause-kept
returns-clause-kept c = λ s earlier one read line shape turn mine.
    let answer = to_withdrawal c.args.number c.args.answer in
    let rule = c.keeps_withdrawal.ensures.kept c.if-not-keeps_withdrawal.false s earlier one shape turn.next in
    let carried = c.carried_by_withdrawal.ensures one c.args.number in
    let own = carried.own in
    let all = turn.next.long in
    let noted = c.note.ensures.lines earlier (line_by one answer) turn.next.caller_is turn.next.group_is carried
    (omega (arith, own, all, own_within s earlier one.group one.caller answer rule, as_long c.args.told.now c.args.so_far.now c.args.caller s earlier one turn.next)) turn.next.lines in
    kept_withdrawal c.args.told.now c.note.new.self c.args.caller s earlier one line c.args.number c.args.answer mine rule
    (next_noted c.args.told.now c.args.so_far.now c.note.new.self c.args.caller s earlier (earlier ++ line_by one answer ∷ []) one turn.next noted c.note.ensures.group c.note.ensures.long)
