use Rattle.pub_log.proofs.Moments.{moments}
use Rattle.pub_log.proofs.law.law_of_moments.Goals as goal

pub returns : goal.returns
returns c = moments
