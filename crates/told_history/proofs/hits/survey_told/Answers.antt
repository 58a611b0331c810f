use Rattle.std.proofs.Common.{ℕ, take, subst, arith}
use Rattle.reg_model.specs.Surveys.{HasSurveyed}
use Rattle.told_history.proofs.hits.survey_told.Goals as goal

pub returns : goal.returns
returns c = λ history tells.
    let s = c.loop-index.survey in
    rw (c.records.ensures, c.atoms.ensures)
    (subst (λ (n : ℕ). HasSurveyed c.args.query.now (take c.args.front history) n s.records s.atoms c.loop-index.hits.hits)
    (omega (arith, c.loop-index.auto.index-end, c.loop-index-test.false)) (c.loop-index.invariant.has history tells))
