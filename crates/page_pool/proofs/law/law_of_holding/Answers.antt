use Rattle.page_pool.proofs.Holding.{law}
use Rattle.page_pool.proofs.law.law_of_holding.Goals as goal

pub returns : goal.returns
returns c = law
