use Rattle.std.proofs.Common.{◌≡◌, ℕ, List, ◌++◌, ◌∷◌, [], ◌∙◌, inl, inr, refl, sym, subst, take, arith}
use Rattle.std.specs.Prelude.{Option, IfNone, IfSome}
use Rattle.std.proofs.lemmas.Bool.{false≢true}
use Rattle.htss_defs.specs.declared.history.Event.{Event}
use Rattle.htss_defs.specs.Reply.{IsReply, found}
use Rattle.reg_model.specs.Searches.{Counts}
use Rattle.told_history.specs.Telling.{Tells}
use Rattle.report_text.specs.declared.report.SearchLine.TheVariants as search
use Rattle.report_rules.specs.Answers.{hits_at, not_read, over_at, to_search}
use Rattle.report_rules.specs.Faults.{IsHitFault, KeepsFront, line_by, own_budget}
use Rattle.report_audit.specs.declared.tally.Carried.{Carried}
use Rattle.report_audit.specs.Tallied.{IsCarried}
use Rattle.report_audit.proofs.BlockKept.{asks, kept_hits, kept_over, kept_refusal, no_query, not_refused, search_of}
use Rattle.report_audit.proofs.Carrying.{carries_hits, carries_nothing, carries_over}
use Rattle.report_audit.proofs.LoadMore.{next_noted}
use Rattle.report_audit.proofs.searches.take_hits.Goals as goal

pub returns-in_default-clause-fault : goal.returns-in_default-clause-fault
returns-in_default-clause-fault c = λ rows s earlier one line file own turn mine.
    let asked = search_of s one line file (search.Hits c.args.printed.front c.args.printed.hits.now rows c.args.printed.records) c.args.read.now mine turn.read_is in
    inl (refl, λ again head. no_query s earlier one line file c.args.read.now head.0 asked (c.query_of.ensures.none c.in_default.is) head.1)

pub returns-then-not-keeps_front-clause-fault : goal.returns-then-not-keeps_front-clause-fault
returns-then-not-keeps_front-clause-fault c = λ rows s earlier one line file own turn mine.
    inl (refl, λ again head. c.keeps_front.ensures.fault c.if-not-keeps_front.true s earlier one (to_search (hits_at head.0 (own_budget s one.job.order) c.args.printed.front c.args.printed.hits.now rows c.args.printed.records)) turn.next head.2)

pub returns-in-Some-2-clause-fault : goal.returns-in-Some-2-clause-fault
returns-in-Some-2-clause-fault c = λ rows s earlier one line file own turn mine.
    let asked = search_of s one line file (search.Hits c.args.printed.front c.args.printed.hits.now rows c.args.printed.records) c.args.read.now mine turn.read_is in
    let query = c.in-Some.query.now in
    let asks_it = asks s one line file c.args.read.now query asked c.in-Some.ensures.asked in
    inr (
      mine,
      (query, asks_it, c.keeps_front.ensures.kept c.if-not-keeps_front.false s earlier one (to_search (hits_at query (own_budget s one.job.order) c.args.printed.front c.args.printed.hits.now rows c.args.printed.records)) turn.next),
      (
        query,
        asks_it,
        subst (λ (b : ℕ). IsHitFault query b (take c.args.printed.front s.history) c.args.printed.hits.now c.args.printed.records c.in-Some-2.offset) (sym own) ((subst (λ (o : Option ℕ). IfSome o (λ offset. (history : List Event) → Tells c.args.told.now history → IsHitFault query c.args.budget (take c.args.printed.front history) c.args.printed.hits.now c.args.printed.records offset))
            c.in-Some-2.is c.in_ok-offset.ensures.differs) s.history turn.next.tells),
      ),
    )

pub returns-clause-kept : goal.returns-clause-kept
returns-clause-kept c = λ rows s earlier one line file own turn mine.
    let asked = search_of s one line file (search.Hits c.args.printed.front c.args.printed.hits.now rows c.args.printed.records) c.args.read.now mine turn.read_is in
    let query = c.in-Some.query.now in
    let answer = to_search (hits_at query c.args.budget c.args.printed.front c.args.printed.hits.now rows c.args.printed.records) in
    let carried = subst (λ (x : Carried). IsCarried (line_by one answer) x) (sym c.carried_by_front.ensures) (carries_hits one query c.args.budget c.args.printed.front rows c.args.printed.records c.args.printed.hits.now) in
    let noted = c.note.ensures.lines earlier (line_by one answer) turn.next.caller_is turn.next.group_is carried (omega arith) turn.next.lines in
    kept_hits c.args.told.now c.note.new.self c.args.caller s earlier one line c.args.printed.front rows c.args.printed.records c.args.budget c.args.printed.hits.now file c.args.read.now query asked c.in-Some.ensures.asked own
    (c.keeps_front.ensures.kept c.if-not-keeps_front.false s earlier one answer turn.next) ((subst (λ (o : Option ℕ). IfNone o ((history : List Event) → Tells c.args.told.now history → IsReply query c.args.budget (take c.args.printed.front history) (found c.args.printed.hits.now) × Counts query (take c.args.printed.front history) c.args.printed.records))
    c.in_default-2.is c.in_ok-offset.ensures.holds) s.history turn.next.tells)
    (next_noted c.args.told.now c.args.so_far.now c.note.new.self c.args.caller s earlier (earlier ++ line_by one answer ∷ []) one turn.next noted c.note.ensures.group c.note.ensures.long)
