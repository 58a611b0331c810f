use Rattle.htss_defs.proofs.Chains.{Walked}
use Rattle.embed.proofs.Anchors.{IsNotLast}
use Rattle.embed.proofs.plan.lead_of.Given as goal

abbrev pub invariant-loop-link : goal.invariant-loop-link
invariant-loop-link l = Walked l.asked.bonds l.n l.link (IsNotLast l.n l.query.bonds)

abbrev pub decreases-loop-link : goal.decreases-loop-link
decreases-loop-link l = l.link
