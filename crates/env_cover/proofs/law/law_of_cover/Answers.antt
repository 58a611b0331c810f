use Rattle.env_cover.proofs.Covering.{law, screening}
use Rattle.env_cover.proofs.law.law_of_cover.Goals as goal

pub returns-clause-cover : goal.returns-clause-cover
returns-clause-cover c = law

pub returns-clause-screen : goal.returns-clause-screen
returns-clause-screen c = screening
