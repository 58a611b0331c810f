use Rattle.std.proofs.Common.{refl, arith}
use Rattle.ring_bonds.proofs.Visits.{IsUnseen-cleared}
use Rattle.ring_bonds.proofs.forest.Visits.clear.Goals as goal

pub loop-x-init : goal.loop-x-init
loop-x-init c y was = was (omega arith)

pub loop-x-preserved : goal.loop-x-preserved
loop-x-preserved c y was = IsUnseen-cleared _ _ y (λ other. c.loop-x.invariant y (λ le. was (omega arith)))

pub returns : goal.returns
returns c = record { seen = refl; places = λ y. c.loop-x.invariant y (λ le. c.requires.past y (omega arith)) }
