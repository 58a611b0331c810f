use Rattle.told_history.proofs.Surveyed.{Surveys}
use Rattle.told_history.proofs.hits.survey_told.Given as goal

abbrev pub invariant-loop-index : goal.invariant-loop-index
invariant-loop-index l = Surveys l.told l.query l.front l.index l.survey.matcher l.survey.records l.survey.atoms l.hits
