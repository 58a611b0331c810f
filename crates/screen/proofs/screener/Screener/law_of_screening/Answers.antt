use Rattle.std.proofs.Common.{subst}
use Rattle.htss_defs.specs.QueryGraph.{QueryGraph}
use Rattle.screen.specs.Losing.{LosesNone}
use Rattle.screen.proofs.screener.Screener.law_of_screening.Goals as goal

pub returns : goal.returns
returns c = subst (λ (q : QueryGraph). LosesNone q) c.self.view_is (record { none = c.self.invariant.none })
