use Rattle.std.proofs.Common.{◌≡◌, ℕ, ◌+◌, List, [], sym, subst, ◌∙◌, arith}
use Rattle.std.proofs.lemmas.Bool.{false≢true}
use Rattle.report_rules.specs.Faults.{IsEventFault, told_from}
use Rattle.told_history.specs.Logs.{MayFollow}
use Rattle.told_history.proofs.LogChecks.{AreSound, broken, sound_count, sound_more, sound_whole}
use Rattle.told_history.proofs.log.first_broken.Goals as goal

pub overflow_cast-number : goal.overflow_cast-number
overflow_cast-number c =
    let count = sound_count c.args.shape c.args.events.now c.loop-event.event-index c.loop-event.withdrawals.items (omega (arith, c.loop-event-test.true)) (c.loop-event.invariant []) in
    omega (arith, count, c.len.ensures, c.loop-event-test.true, c.requires)

pub overflow_add-number : goal.overflow_add-number
overflow_add-number c =
    let count = sound_count c.args.shape c.args.events.now c.loop-event.event-index c.loop-event.withdrawals.items (omega (arith, c.loop-event-test.true)) (c.loop-event.invariant []) in
    omega (arith, count, c.len.ensures, c.loop-event-test.true, c.requires)

pub returns-then-not-may_follow-clause-broken : goal.returns-then-not-may_follow-clause-broken
returns-then-not-may_follow-clause-broken c = λ named.
    let shape = c.args.shape in
    let events = c.args.events.now in
    let i = c.loop-event.event-index in
    let count = sound_count shape events i c.loop-event.withdrawals.items (omega (arith, c.loop-event-test.true)) (c.loop-event.invariant []) in
    let same : i + 1 ≡ c.len.result + 1 = omega (arith, count, c.len.ensures) in
    subst (λ (n : ℕ). IsEventFault shape (told_from named 1 events) n) same
    (broken shape events i c.loop-event.withdrawals.items c.event-item.result named c.loop-event-test.true c.event-item.is (c.loop-event.invariant named)
    (λ may. false≢true (sym c.if-not-may_follow.true ∙ c.may_follow.ensures.1 (subst (λ (l : List ℕ). MayFollow shape events l c.event-item.result) (sym c.deref.ensures.value) may))))

pub add_event-requires-clause-few : goal.add_event-requires-clause-few
add_event-requires-clause-few c =
    let count = sound_count c.args.shape c.args.events.now c.loop-event.event-index c.loop-event.withdrawals.items (omega (arith, c.loop-event-test.true)) (c.loop-event.invariant []) in
    omega (arith, count, c.loop-event-test.true, c.requires)

pub loop-event-preserved : goal.loop-event-preserved
loop-event-preserved c = λ named.
    let shape = c.args.shape in
    let events = c.args.events.now in
    let i = c.loop-event.event-index in
    let may = subst (λ (l : List ℕ). MayFollow shape events l c.event-item.result) c.deref.ensures.value (c.may_follow.ensures.0 c.if-not-may_follow.false) in
    subst (λ (l : List ℕ). AreSound shape events (i + 1) l named) (sym c.in_ok-add_event.ensures)
    (sound_more shape events i c.loop-event.withdrawals.items c.event-item.result named c.loop-event-test.true c.event-item.is (c.loop-event.invariant named) may)

pub returns-clause-sound : goal.returns-clause-sound
returns-clause-sound c = λ named.
    sound_whole c.args.shape c.args.events.now c.loop-event.event-index c.loop-event.withdrawals.items named c.loop-event-test.false (c.loop-event.invariant named)
