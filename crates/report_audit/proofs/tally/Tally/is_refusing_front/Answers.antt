use Rattle.std.proofs.Common.{arith}
use Rattle.std.proofs.lemmas.Bool.{leb-true, leb-false}
use Rattle.report_audit.specs.Callers.{caller_of}
use Rattle.report_audit.proofs.TallyTests.{is_refusing, refusing_early, refusing_own}
use Rattle.report_audit.proofs.tally.Tally.is_refusing_front.Goals as goal

pub returns-then-self-place-clause-front : goal.returns-then-self-place-clause-front
returns-then-self-place-clause-front c = λ within lines line next tally.
    is_refusing lines line c.args.self.now (caller_of c.args.caller) c.place.result c.requires c.place.ensures.at next tally c.args.front c.if-self-place.true (leb-true _ c.args.front within)

pub returns-then-self-place-clause-short : goal.returns-then-self-place-clause-short
returns-then-self-place-clause-short c = λ over lines line next tally is.
    let early = refusing_early lines line c.args.self.now (caller_of c.args.caller) c.place.result c.requires c.place.ensures.at next tally c.args.front is in
    let late = leb-false _ c.args.front over in
    absurd (omega (arith, early, late))

pub returns-else-self-place-clause-short : goal.returns-else-self-place-clause-short
returns-else-self-place-clause-short c = λ over lines line next tally is.
    let own = refusing_own lines line c.args.self.now (caller_of c.args.caller) c.place.result c.requires c.place.ensures.at next tally c.args.front is in
    absurd (omega (arith, own, c.if-self-place.false))
