use Rattle.std.proofs.Common.{◌≡◌, ◌+◌, ◌++◌, ◌∷◌, [], ◌∙◌, map, length, refl, ap, sym, arith}
use Rattle.std.specs.Prelude.{Some, option_map}
use Rattle.std.proofs.lemmas.Option.{slice_get-map, slice_get_read}
use Rattle.report_rules.specs.Answers.{to_record}
use Rattle.report_rules.specs.Faults.{answer_line}
use Rattle.report_audit.specs.LineChecks.{answer_to}
use Rattle.told_history.specs.Reads as reads
use Rattle.report_audit.proofs.Keeping.{as_long, outcome_same}
use Rattle.report_audit.proofs.LoadMore.{has_loaded_more, next_noted, own_within}
use Rattle.report_audit.proofs.loads.take_line.Goals as goal

pub returns-clause-kept : goal.returns-clause-kept
returns-clause-kept c = λ yes s earlier one shape has.
    let records = c.args.records.now in
    let lines = c.args.lines.now in
    let index = c.args.index in
    let read = c.index-records-index.result in
    let line = c.index-lines-index.result in
    let answer = answer_to read line in
    let before = earlier ++ map (answer_line one) has.before in
    let kept = c.keeps_record.ensures.kept c.if-not-keeps_record.false s before one shape has.next in
    let record_at = slice_get-map reads.outcome_of records index ∙ ap (option_map reads.outcome_of) (slice_get_read records _ index read refl (omega (arith, c.if-index-records.false)) c.index-records-index.is)
    ∙ ap Some (sym (outcome_same read line)) in
    let line_at = slice_get_read lines _ index line refl (omega (arith, c.if-index-lines.false)) c.index-lines-index.is ∙ ap Some (sym kept.0) in
    let carried = c.carried_by_record.ensures one in
    let own = carried.own in
    let all = has.next.long in
    let noted = c.note.ensures.lines before (answer_line one answer) has.next.caller_is has.next.group_is carried
    (omega (arith, own, all, own_within s before one.group one.caller (to_record answer) kept.1, as_long c.args.told.now c.args.so_far.now c.args.caller s before one has.next)) has.next.lines in (
      omega (arith, c.if-index-lines.false),
      omega (arith, c.if-index-records.false),
      has_loaded_more c.args.told.now c.args.so_far.now c.note.new.self c.args.caller s earlier one (map reads.outcome_of records) lines index answer has record_at line_at kept.1
          (next_noted c.args.told.now c.args.so_far.now c.note.new.self c.args.caller s before (before ++ answer_line one answer ∷ []) one has.next noted c.note.ensures.group c.note.ensures.long),
    )
