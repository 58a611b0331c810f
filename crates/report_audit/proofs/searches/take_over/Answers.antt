use Rattle.std.proofs.Common.{◌≡◌, ℕ, ◌++◌, ◌∷◌, [], ◌∙◌, inl, inr, refl, sym, subst, take, arith}
use Rattle.std.proofs.lemmas.Bool.{false≢true}
use Rattle.htss_defs.specs.Reply.{IsReply, over_budget}
use Rattle.report_text.specs.declared.report.Block.TheVariants as block
use Rattle.report_text.specs.declared.report.SearchLine.TheVariants as search
use Rattle.report_audit.specs.BlockChecks.{IsKeptBlock}
use Rattle.report_rules.specs.Answers.{hits_at, not_read, over_at, to_search}
use Rattle.report_rules.specs.Faults.{IsHitFault, KeepsFront, line_by, own_budget}
use Rattle.report_audit.specs.declared.tally.Carried.{Carried}
use Rattle.report_audit.specs.Tallied.{IsCarried}
use Rattle.report_audit.proofs.BlockKept.{asks, kept_hits, kept_over, kept_refusal, no_query, not_refused, search_of}
use Rattle.report_audit.proofs.Carrying.{carries_hits, carries_nothing, carries_over}
use Rattle.report_audit.proofs.LoadMore.{next_noted}
use Rattle.report_audit.proofs.searches.take_over.Goals as goal

pub returns-in_default-clause-fault : goal.returns-in_default-clause-fault
returns-in_default-clause-fault c = λ s earlier one line file own turn mine.
    let asked = search_of s one line file (search.OverBudget c.args.front c.args.printed) c.args.read.now mine turn.read_is in
    inl (refl, λ again head. no_query s earlier one line file c.args.read.now head.0 asked (c.query_of.ensures.none c.in_default.is) head.1)

pub returns-then-not-keeps_front-clause-fault : goal.returns-then-not-keeps_front-clause-fault
returns-then-not-keeps_front-clause-fault c = λ s earlier one line file own turn mine.
    inl (refl, λ again head. c.keeps_front.ensures.fault c.if-not-keeps_front.true s earlier one (to_search (over_at head.0 (own_budget s one.job.order) c.args.front)) turn.next head.2)

pub returns-then-printed-budget-clause-fault : goal.returns-then-printed-budget-clause-fault
returns-then-printed-budget-clause-fault c = λ s earlier one line file own turn mine.
    let asked = search_of s one line file (search.OverBudget c.args.front c.args.printed) c.args.read.now mine turn.read_is in
    let query = c.in-Some.query.now in
    let asks_it = asks s one line file c.args.read.now query asked c.in-Some.ensures.asked in
    inr (
      mine,
      (query, asks_it, c.keeps_front.ensures.kept c.if-not-keeps_front.false s earlier one (to_search (over_at query (own_budget s one.job.order) c.args.front)) turn.next),
      (query, asks_it, refl, λ same reply. c.if-printed-budget.true (same ∙ own)),
    )

pub returns-then-not-check_over-clause-fault : goal.returns-then-not-check_over-clause-fault
returns-then-not-check_over-clause-fault c = λ s earlier one line file own turn mine.
    let asked = search_of s one line file (search.OverBudget c.args.front c.args.printed) c.args.read.now mine turn.read_is in
    let query = c.in-Some.query.now in
    let asks_it = asks s one line file c.args.read.now query asked c.in-Some.ensures.asked in
    inr (
      mine,
      (query, asks_it, c.keeps_front.ensures.kept c.if-not-keeps_front.false s earlier one (to_search (over_at query (own_budget s one.job.order) c.args.front)) turn.next),
      (query, asks_it, refl, λ same reply. c.check_over.ensures.within c.if-not-check_over.true s.history turn.next.tells (subst (λ (b : ℕ). IsReply query b (take c.args.front s.history) over_budget) c.if-printed-budget.false reply)),
    )

pub returns-clause-kept : goal.returns-clause-kept
returns-clause-kept c = λ s earlier one line file own turn mine.
    let asked = search_of s one line file (search.OverBudget c.args.front c.args.printed) c.args.read.now mine turn.read_is in
    let query = c.in-Some.query.now in
    let budget = c.args.budget in
    let answer = to_search (over_at query budget c.args.front) in
    let carried = subst (λ (x : Carried). IsCarried (line_by one answer) x) (sym c.carried_by_front.ensures) (carries_over one query budget c.args.front) in
    let noted = c.note.ensures.lines earlier (line_by one answer) turn.next.caller_is turn.next.group_is carried (omega arith) turn.next.lines in
    subst (λ (n : ℕ). IsKeptBlock c.args.told.now c.note.new.self s earlier one (block.Search line file (search.OverBudget c.args.front n))) (sym c.if-printed-budget.false)
    (kept_over c.args.told.now c.note.new.self c.args.caller s earlier one line c.args.front budget file c.args.read.now query asked c.in-Some.ensures.asked own
    (c.keeps_front.ensures.kept c.if-not-keeps_front.false s earlier one answer turn.next) (c.check_over.ensures.over c.if-not-check_over.false s.history turn.next.tells)
    (next_noted c.args.told.now c.args.so_far.now c.note.new.self c.args.caller s earlier (earlier ++ line_by one answer ∷ []) one turn.next noted c.note.ensures.group c.note.ensures.long))
