use Rattle.std.proofs.Common.{arith}
use Rattle.htss_defs.proofs.Chains.{none_joins-walked}
use Rattle.htss_defs.proofs.adjacency.Adjacency.find_from.Goals as goal

pub returns-clause-none : goal.returns-clause-none
returns-clause-none c = none_joins-walked _ _ _ c.loop-link.link c.loop-link.invariant (omega arith)
