use Rattle.std.proofs.Common.{List, take, sym, subst, arith}
use Rattle.htss_defs.specs.declared.history.Hit.{Hit}
use Rattle.reg_model.specs.Surveys.{HasSurveyed}
use Rattle.told_history.proofs.Surveyed.{all_hold, other_count, other_hit, too_dear, too_few}
use Rattle.told_history.proofs.hits.check_hits.Goals as goal

pub returns-in-Some-clause-differs : goal.returns-in-Some-clause-differs
returns-in-Some-clause-differs c =
    let s = c.in_ok-surveyed.surveyed in
    other_hit c.args.told.now c.args.query.now c.args.budget c.args.front s.records s.atoms c.args.hits.now c.hits-all.result.now c.args.records c.requires.front
    (λ history tells. subst (λ (l : List Hit). HasSurveyed c.args.query.now (take c.args.front history) c.args.front s.records s.atoms l) (sym c.hits-all.ensures) (c.in_ok-surveyed.ensures history tells))
    c.in-Some.index c.in-Some.ensures.within c.in-Some.ensures.alike c.in-Some.ensures.other

pub returns-then-hits-all-clause-differs : goal.returns-then-hits-all-clause-differs
returns-then-hits-all-clause-differs c =
    let s = c.in_ok-surveyed.surveyed in
    too_few c.args.told.now c.args.query.now c.args.budget c.args.front s.records s.atoms c.args.hits.now c.hits-all.result.now c.args.records c.requires.front
    (λ history tells. subst (λ (l : List Hit). HasSurveyed c.args.query.now (take c.args.front history) c.args.front s.records s.atoms l) (sym c.hits-all.ensures) (c.in_ok-surveyed.ensures history tells))
    (c.first_other.ensures.none c.in_default.is) (omega (arith, c.if-hits-all.true))

pub returns-then-surveyed-records-clause-differs : goal.returns-then-surveyed-records-clause-differs
returns-then-surveyed-records-clause-differs c =
    let s = c.in_ok-surveyed.surveyed in
    other_count c.args.told.now c.args.query.now c.args.budget c.args.front s.records s.atoms c.args.hits.now c.hits-all.result.now c.args.records c.requires.front
    (λ history tells. subst (λ (l : List Hit). HasSurveyed c.args.query.now (take c.args.front history) c.args.front s.records s.atoms l) (sym c.hits-all.ensures) (c.in_ok-surveyed.ensures history tells))
    (c.first_other.ensures.none c.in_default.is) c.if-surveyed-records.true

pub returns-then-budget-surveyed-clause-differs : goal.returns-then-budget-surveyed-clause-differs
returns-then-budget-surveyed-clause-differs c =
    let s = c.in_ok-surveyed.surveyed in
    too_dear c.args.told.now c.args.query.now c.args.budget c.args.front s.records s.atoms c.args.hits.now c.hits-all.result.now c.args.records c.requires.front
    (λ history tells. subst (λ (l : List Hit). HasSurveyed c.args.query.now (take c.args.front history) c.args.front s.records s.atoms l) (sym c.hits-all.ensures) (c.in_ok-surveyed.ensures history tells))
    (c.first_other.ensures.none c.in_default.is) (omega (arith, c.if-budget-surveyed.true))

pub returns-clause-holds : goal.returns-clause-holds
returns-clause-holds c =
    let s = c.in_ok-surveyed.surveyed in
    all_hold c.args.told.now c.args.query.now c.args.budget c.args.front s.records s.atoms c.args.hits.now c.hits-all.result.now c.args.records c.requires.front
    (λ history tells. subst (λ (l : List Hit). HasSurveyed c.args.query.now (take c.args.front history) c.args.front s.records s.atoms l) (sym c.hits-all.ensures) (c.in_ok-surveyed.ensures history tells))
    (c.first_other.ensures.none c.in_default.is) (omega (arith, c.if-hits-all.false)) c.if-surveyed-records.false (omega (arith, c.if-budget-surveyed.false))
