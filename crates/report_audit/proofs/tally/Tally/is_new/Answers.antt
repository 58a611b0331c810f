use Rattle.std.proofs.Common.{arith}
use Rattle.std.proofs.lemmas.Bool.{ltb-true, ltb-false}
use Rattle.report_audit.specs.Callers.{caller_of}
use Rattle.report_audit.proofs.TallyTests.{is_new, new_early, new_own}
use Rattle.report_audit.proofs.tally.Tally.is_new.Goals as goal

pub returns-then-self-place-clause-new : goal.returns-then-self-place-clause-new
returns-then-self-place-clause-new c = λ less lines line next tally once.
    is_new lines line c.args.self.now (caller_of c.args.caller) c.place.result c.requires.caller c.place.ensures.at next tally c.args.number c.if-self-place.true
    (ltb-true c.args.self.now.before c.args.number less) once

pub returns-then-self-place-clause-old : goal.returns-then-self-place-clause-old
returns-then-self-place-clause-old c = λ over lines line next tally new.
    let early = new_early lines line c.args.self.now (caller_of c.args.caller) c.place.result c.requires.caller c.place.ensures.at next tally c.args.number c.requires.some new in
    let late = ltb-false c.args.self.now.before c.args.number over in
    absurd (omega (arith, early, late))

pub returns-else-self-place-clause-old : goal.returns-else-self-place-clause-old
returns-else-self-place-clause-old c = λ over lines line next tally new.
    let own = new_own lines line c.args.self.now (caller_of c.args.caller) c.place.result c.requires.caller c.place.ensures.at next tally c.args.number c.requires.some new in
    absurd (omega (arith, own, c.if-self-place.false))
