use Rattle.std.proofs.Common.{◌≤◌, length, ap, arith}
use Rattle.htss_defs.specs.QueryGraph.{QueryGraph}
use Rattle.env_cover.proofs.Pivots.{IsBest-start, IsBest-greater, IsBest-kept, IsPivot-of}
use Rattle.env_cover.proofs.needs.Needs.pivot.Goals as goal
use Rattle.env_cover.proofs.needs.Needs.pivot.Goals.{then-weight-greatest, else-weight-greatest}

pub weight-greatest-requires-clause-within : goal.weight-greatest-requires-clause-within
weight-greatest-requires-clause-within c = omega (arith, c.atoms.ensures.valid.atoms.0, ap (λ (q : QueryGraph). length q.atoms) c.self.view_is)

pub loop-atom-init : goal.loop-atom-init
loop-atom-init c = IsBest-start c.args.self.now c.weight-greatest.result (omega (arith, c.atoms.ensures.valid.atoms.0, ap (λ (q : QueryGraph). length q.atoms) c.self.view_is)) c.weight-greatest.ensures

pub loop-atom-preserved : goal.loop-atom-preserved
loop-atom-preserved c =
    let within : c.loop-atom.atom ≤ length c.args.self.now.atoms = omega (arith, ap length c.atoms.ensures.items, ap (λ (q : QueryGraph). length q.atoms) c.self.view_is) in
    elim c.if-weight-greatest.branch [
      | then-weight-greatest w ↦ rw (w.pivot-is, w.greatest-is) (IsBest-greater c.args.self.now c.loop-atom.pivot c.loop-atom.greatest c.loop-atom.atom c.weight-weight.result c.loop-atom.invariant within c.weight-weight.ensures w.if-weight-greatest.true)
      | else-weight-greatest w ↦ rw (w.pivot-is, w.greatest-is) (IsBest-kept c.args.self.now c.loop-atom.pivot c.loop-atom.greatest c.loop-atom.atom c.weight-weight.result c.loop-atom.invariant c.weight-weight.ensures w.if-weight-greatest.false)
    ]

pub returns : goal.returns
returns c = IsPivot-of c.args.self.now c.loop-atom.pivot c.loop-atom.greatest c.loop-atom.atom c.loop-atom.invariant (omega (arith, ap length c.atoms.ensures.items, ap (λ (q : QueryGraph). length q.atoms) c.self.view_is))
