use Rattle.std.proofs.Common.{◌≡◌, ◌↔◌, ℕ, ◌≤◌, Some, [], subst}
use Rattle.htss_defs.specs.QueryGraph.{QueryGraph}
use Rattle.htss_defs.specs.Cost.{cost}
use Rattle.screen.proofs.screener.Screener.cost_of.Goals as goal

pub returns-clause-some : goal.returns-clause-some
returns-clause-some c = λ k.
    subst (λ (q : QueryGraph). c.cost_of.result ≡ Some k ↔ ((k ≡ cost q c.args.mol.now []) × (k ≤ c.args.limit))) c.self.view_is (c.cost_of.ensures.some k)
