use Rattle.std.proofs.Common.{◌≡◌, ℕ, ◌++◌, ◌∷◌, [], ◌∙◌, inl, inr, refl, sym, subst, take, arith}
use Rattle.std.proofs.lemmas.Bool.{false≢true}
use Rattle.report_text.specs.declared.report.SearchLine.TheVariants as search
use Rattle.report_rules.specs.Answers.{hits_at, not_read, over_at, to_search}
use Rattle.report_rules.specs.Faults.{IsHitFault, KeepsFront, line_by, own_budget}
use Rattle.report_audit.specs.declared.tally.Carried.{Carried}
use Rattle.report_audit.specs.Tallied.{IsCarried}
use Rattle.report_audit.proofs.BlockKept.{asks, kept_hits, kept_over, kept_refusal, no_query, not_refused, search_of}
use Rattle.report_audit.proofs.Carrying.{carries_hits, carries_nothing, carries_over}
use Rattle.report_audit.proofs.LoadMore.{next_noted}
use Rattle.report_audit.proofs.searches.take_refusal.Goals as goal

pub returns-then-not-is_refused_so-clause-fault : goal.returns-then-not-is_refused_so-clause-fault
returns-then-not-is_refused_so-clause-fault c = λ told budget s earlier one at file own_is turn mine.
    let asked = search_of s one at file (search.Refused c.args.line c.args.code) c.args.read.now mine turn.read_is in
    inl (refl, λ again head. not_refused s earlier one at c.args.line c.args.code file c.args.read.now asked (λ so. false≢true (sym c.if-not-is_refused_so.true ∙ c.is_refused_so.ensures.1 so)) head)

pub returns-clause-kept : goal.returns-clause-kept
returns-clause-kept c = λ told budget s earlier one at file own_is turn mine.
    let asked = search_of s one at file (search.Refused c.args.line c.args.code) c.args.read.now mine turn.read_is in
    let answer = to_search (not_read c.args.line c.args.code) in
    let carried = subst (λ (x : Carried). IsCarried (line_by one answer) x) (sym c.nothing_carried.ensures) (carries_nothing one c.args.line c.args.code) in
    let own = carried.own in
    let noted = c.note.ensures.lines earlier (line_by one answer) turn.next.caller_is turn.next.group_is carried (omega (arith, own)) turn.next.lines in
    kept_refusal told c.note.new.self c.args.caller s earlier one at c.args.line c.args.code file c.args.read.now asked (c.is_refused_so.ensures.0 c.if-not-is_refused_so.false)
    (next_noted told c.args.so_far.now c.note.new.self c.args.caller s earlier (earlier ++ line_by one answer ∷ []) one turn.next noted c.note.ensures.group c.note.ensures.long)
