use Rattle.std.proofs.Common.{◌+◌, ℕ, take, ap, subst, ◌∙◌, arith}
use Rattle.htss_defs.specs.HitLists.{HitsKept}
use Rattle.reg_model.specs.Surveys.{HasSurveyed}
use Rattle.reg_model.proofs.Living.{live-marked}
use Rattle.reg_model.proofs.Surveying.{surveyed-none, surveys-next, surveys-none_live, surveyed-hits, surveyed-counts}
use Rattle.reg_model.proofs.plain_registry.PlainRegistry.survey.Goals.{in-Some+in_ok-take, in_default}
use Rattle.reg_model.proofs.plain_registry.PlainRegistry.survey.Goals as goal

pub loop-index-init : goal.loop-index-init
loop-index-init c = record {
  asked_is = c.new-survey.ensures.asked;
  room = omega (arith, c.new-survey.ensures.records);
  low = omega (arith, c.new-survey.ensures.atoms);
  has = rw (c.new-survey.ensures.records, c.new-survey.ensures.atoms, c.requires.empty) (surveyed-none c.args.query.now (take c.args.front c.args.self.now.events));
}

pub take-requires-clause-marked : goal.take-requires-clause-marked
take-requires-clause-marked c =
    live-marked c.args.self.now.events c.args.front (c.loop-index.index + 1) c.in-Some.live.name.now c.in-Some.live.mol.now c.requires.marked c.requires.front c.in-Some.ensures.live

pub loop-index-preserved : goal.loop-index-preserved
loop-index-preserved c =
    let s = c.loop-index.survey in
    elim c.match-live_record.branch [
      | in-Some+in_ok-take w ↦ rw (w.hits-is, w.survey-is)
          (surveys-next c.args.query.now c.args.self.now.events c.args.front c.loop-index.index s.matcher w.take.new.self.matcher s.records w.take.new.self.records s.atoms w.take.new.self.atoms c.loop-index.hits w.take.new.hits
          w.in-Some.live.name.now w.in-Some.live.mol.now c.loop-index.invariant w.take.ensures.asked w.take.ensures.room w.take.ensures.atoms w.in-Some.ensures.live w.in_ok-take.ensures.ok)
      | in_default w ↦ rw (w.hits-is, w.survey-is)
          (surveys-none_live c.args.query.now c.args.self.now.events c.args.front c.loop-index.index s.matcher s.records s.atoms c.loop-index.hits c.loop-index.invariant (c.live_record.ensures.none w.in_default.is))
    ]

pub returns-clause-found : goal.returns-clause-found
returns-clause-found c =
    let s = c.loop-index.survey in
    let has = subst (λ (n : ℕ). HasSurveyed c.args.query.now (take c.args.front c.args.self.now.events) n s.records s.atoms c.loop-index.hits.hits) (omega (arith, c.loop-index.auto.index-end, c.loop-index-test.false)) c.loop-index.invariant.has in
    rw (ap (λ (h : HitsKept). h.hits) c.set_counts.ensures) (surveyed-hits c.args.query.now c.args.self.now.events c.args.front s.records s.atoms c.loop-index.hits.hits c.requires.front has)

pub returns-clause-records : goal.returns-clause-records
returns-clause-records c =
    let s = c.loop-index.survey in
    let has = subst (λ (n : ℕ). HasSurveyed c.args.query.now (take c.args.front c.args.self.now.events) n s.records s.atoms c.loop-index.hits.hits) (omega (arith, c.loop-index.auto.index-end, c.loop-index-test.false)) c.loop-index.invariant.has in
    rw (ap (λ (h : HitsKept). h.records) c.set_counts.ensures ∙ c.records.ensures) (surveyed-counts c.args.query.now c.args.self.now.events c.args.front s.records s.atoms c.loop-index.hits.hits c.requires.front has)
