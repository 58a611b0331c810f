use Rattle.page_pool.proofs.Passing.{scanned}
use Rattle.page_pool.proofs.scans.scan_callers.Goals as goal

pub returns-clause-scanned : goal.returns-clause-scanned
returns-clause-scanned c = scanned _ _ _ _ _ c.later_epoch-epoch.ensures c.least_announced.ensures.passed
