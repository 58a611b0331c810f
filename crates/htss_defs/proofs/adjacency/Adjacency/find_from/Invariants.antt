use Rattle.htss_defs.proofs.Chains.{Walked, DoesNotJoin}
use Rattle.htss_defs.proofs.adjacency.Adjacency.find_from.Given as goal

abbrev pub invariant-loop-link : goal.invariant-loop-link
invariant-loop-link l = Walked l.self.bonds l.x l.link (DoesNotJoin l.self.bonds l.x l.y)

abbrev pub decreases-loop-link : goal.decreases-loop-link
decreases-loop-link l = l.link
