use Rattle.board_core.proofs.FewPages.{few_busy}
use Rattle.page_pool.proofs.law.law_of_counts.Goals as goal

pub returns : goal.returns
returns c k p history vs rule = few_busy k p.pool.states vs rule.seats rule.pool.counts
