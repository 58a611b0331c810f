use Rattle.std.proofs.Common.{◌≢◌, ℕ, ◌-◌, ◌<◌, ◌≤◌, ◌∙◌, arith}
use Rattle.std.proofs.lemmas.List.{get_or_default}
use Rattle.told_history.proofs.Naming.{known, outside, written}
use Rattle.told_history.specs.declared.names.Namer.TheVariants.{Nobody}
use Rattle.told_history.proofs.names.name_event.Goals as goal

below : (number many : ℕ) → number ≢ 0 → number ≤ many → number - 1 < many
below number many some within = omega (arith, some, within)

pub returns-then-number-eq0 : goal.returns-then-number-eq0
returns-then-number-eq0 c = λ named is. outside named c.args.table.now c.args.number _ (λ some within. omega (arith, some, c.if-number-eq0.true)) is

pub returns-then-number-table : goal.returns-then-number-table
returns-then-number-table c = λ named is. outside named c.args.table.now c.args.number _ (λ some within. omega (arith, within, c.if-number-table.true)) is

pub returns-in-Nobody : goal.returns-in-Nobody
returns-in-Nobody c = λ named is.
    written named c.args.table.now c.args.number _ c.namer_with.result Nobody (omega (arith, c.if-number-eq0.false)) (omega (arith, c.if-number-table.false))
    (get_or_default c.args.table.now (c.args.number - 1) Nobody _ (below c.args.number _ c.if-number-eq0.false c.if-number-table.false) ∙ c.in-Nobody.is) c.namer_with.ensures is

pub returns-in_default : goal.returns-in_default
returns-in_default c = λ named is.
    known named c.args.table.now c.args.number _ Nobody (omega (arith, c.if-number-eq0.false)) (omega (arith, c.if-number-table.false))
    (λ x. c.in_default.not-Nobody (get_or_default c.args.table.now (c.args.number - 1) _ Nobody (below c.args.number _ c.if-number-eq0.false c.if-number-table.false) ∙ x)) is
