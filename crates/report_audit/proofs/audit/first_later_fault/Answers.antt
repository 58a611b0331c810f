use Rattle.std.proofs.Common.{◌≡◌, ℕ, ◌+◌, ◌<◌, ◌∙◌, Bool, List, length, inl, inr, ap, sym, subst, arith}
use Rattle.report_rules.specs.Dealing.{dealt}
use Rattle.report_audit.specs.BlockChecks.{HasKept}
use Rattle.report_audit.specs.SoFars.{IsFree}
use Rattle.report_audit.proofs.Auditing.{all_kept, unnamed, unsaturated}
use Rattle.report_audit.proofs.Founds.{none_at, some_at}
use Rattle.told_history.proofs.TellEvents.{told_length}
use Rattle.report_audit.proofs.Turning.{count_dealt, kept_none}
use Rattle.report_audit.proofs.audit.first_later_fault.Goals as goal

pub returns-in-Some-clause-fault : goal.returns-in-Some-clause-fault
returns-in-Some-clause-fault c = λ script s are.
    let start = kept_none c.args.told.now c.in_ok-so_far.so_far script s c.args.turns.now.blocks.now c.in_ok-so_far.ensures.none c.in_ok-so_far.ensures.group c.in_ok-so_far.ensures.long in
    inl ((some_at _ c.in-Some.line _ c.in-Some.is c.in_ok-line.ensures.fault) script s are start)

pub returns-in-Some-first_free-clause-fault : goal.returns-in-Some-first_free-clause-fault
returns-in-Some-first_free-clause-fault c = λ script s are.
    let blocks = c.args.turns.now.blocks.now in
    let number = c.in-Some-first_free.number in
    let so_far = c.take_blocks.new.so_far in
    let start = kept_none c.args.told.now c.in_ok-so_far.so_far script s blocks c.in_ok-so_far.ensures.none c.in_ok-so_far.ensures.group c.in_ok-so_far.ensures.long in
    let (kept, long) = (none_at _ _ c.in_default.is c.in_ok-line.ensures.kept) script s are start in
    let count = count_dealt c.args.told.now c.args.turns.now script s are in
    let has = subst (λ (n : ℕ). HasKept c.args.told.now so_far s (dealt s.shape 1 script) blocks n) (sym count) kept in
    let free = c.in-Some-first_free.ensures.free in
    let is_free = subst (λ (l : List Bool). IsFree l number) c.deref.ensures.value free.0 in
    let within = is_free.within in
    let many = has.long in
    let fits : c.line_after.result + number < 18446744073709551616 = omega (arith, within, many, c.line_after.ensures, c.requires.lines) in
    inr (
      number,
      unsaturated _ c.line_after.result number c.saturating_add.ensures fits ∙ ap (λ (n : ℕ). n + number) c.line_after.ensures,
      unnamed c.args.told.now so_far s (dealt s.shape 1 script) blocks number are.tells has (long ∙ sym count) is_free
          (λ other less one. free.1 other less (subst (λ (l : List Bool). IsFree l other) (sym c.deref.ensures.value) one)),
    )

pub returns-clause-none : goal.returns-clause-none
returns-clause-none c = λ script s are.
    let blocks = c.args.turns.now.blocks.now in
    let so_far = c.take_blocks.new.so_far in
    let start = kept_none c.args.told.now c.in_ok-so_far.so_far script s blocks c.in_ok-so_far.ensures.none c.in_ok-so_far.ensures.group c.in_ok-so_far.ensures.long in
    let (kept, long) = (none_at _ _ c.in_default.is c.in_ok-line.ensures.kept) script s are start in
    let count = count_dealt c.args.told.now c.args.turns.now script s are in
    let has = subst (λ (n : ℕ). HasKept c.args.told.now so_far s (dealt s.shape 1 script) blocks n) (sym count) kept in
    all_kept c.args.told.now so_far s (dealt s.shape 1 script) blocks are.tells has (long ∙ sym count)
    (λ other one. c.in-None.ensures.none other (subst (λ (l : List Bool). IsFree l other) (sym c.deref.ensures.value) one))
