use Rattle.std.proofs.Common.{inl, inr}
use Rattle.std.proofs.lemmas.Bool.{eqb-true, eq-eqb}
use Rattle.ring_bonds.proofs.Visits.{bond-read, IsTreeBond-end}
use Rattle.ring_bonds.proofs.forest.Forest.has_bond.Goals as goal

pub returns-else-self-ends : goal.returns-else-self-ends
returns-else-self-ends c = (
  λ yes. record { place = _; is = eqb-true _ _ yes },
  λ tree. elim (IsTreeBond-end _ _ c.args.bond _ c.requires.forest.trees (bond-read c.args.graph.now c.bonds.result.now c.args.bond c.bonds.ensures.items c.requires.bond) tree) [
    | inl first ↦ absurd (c.if-self-ends.false first)
    | inr second ↦ eq-eqb _ _ second
  ],
)
