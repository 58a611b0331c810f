-- What a weighing of the records of a history has, until the budget is spent.
use Rattle.std.specs.Prelude.{◌≡◌, ℕ, ◌+◌, List}
use Rattle.htss_defs.specs.declared.history.Event.{Event}
use Rattle.htss_defs.specs.QueryGraph.{QueryGraph}
use Rattle.htss_defs.specs.Reply.{Numbered, work}
use Rattle.reg_model.specs.Searches.{AreScreenedTo}

-- the budget has paid for the work of the screened records numbered up to k, and so much is left of it
pub record HasWeighed (q : QueryGraph) (history : List Event) (budget left k : ℕ) : Type 0 where
  pub screened : List Numbered
  pub are_screened : AreScreenedTo q history k screened
  pub paid : left + work q screened ≡ budget
