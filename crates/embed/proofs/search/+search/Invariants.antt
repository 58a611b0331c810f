use Rattle.std.proofs.Common.{◌-◌, length}
use Rattle.embed.proofs.Steps.{Tries}
use Rattle.embed.proofs.search.+search.Given as goal

abbrev pub decreases-search : goal.decreases-search
decreases-search l = length l.target.now.query.now.atoms - length l.map.now

abbrev pub invariant-loop-p : goal.invariant-loop-p
invariant-loop-p l = Tries l.target.query.now l.target.mol.now l.fn.map l.map l.target.price l.after
    l.fn.budget l.budget

abbrev pub decreases-loop-p : goal.decreases-loop-p
decreases-loop-p l = length l.target.mol.now.atoms - l.after
