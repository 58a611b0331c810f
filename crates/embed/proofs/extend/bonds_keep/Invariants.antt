use Rattle.embed.proofs.Keeps.{KeptFrom}
use Rattle.embed.proofs.extend.bonds_keep.Given as goal

abbrev pub invariant-loop-link : goal.invariant-loop-link
invariant-loop-link l = KeptFrom l.target.query.now l.target.asked.now l.target.mol.now l.map l.p l.from l.link

abbrev pub decreases-loop-link : goal.decreases-loop-link
decreases-loop-link l = l.link
