use Rattle.std.proofs.Common.{◌-◌, length}
use Rattle.embed.proofs.Counting.{Counted}
use Rattle.embed.proofs.count.+count.Given as goal

abbrev pub decreases-count : goal.decreases-count
decreases-count l = length l.target.now.query.now.atoms - length l.map.now

abbrev pub invariant-loop-p : goal.invariant-loop-p
invariant-loop-p l = Counted l.target.query.now l.target.mol.now l.fn.map l.map l.target.price l.after l.fn.left l.left

abbrev pub decreases-loop-p : goal.decreases-loop-p
decreases-loop-p l = length l.target.mol.now.atoms - l.after
