use Rattle.std.proofs.Common.{◌<◌, length, subst, rules}
use Rattle.std.proofs.lemmas.List.Elements.{All-more}
use Rattle.htss_defs.specs.declared.graph.Ends.{Ends}
use Rattle.htss_defs.specs.Graph.{AreEnds}
use Rattle.htss_defs.specs.QueryGraph.{query_bond_ends}
use Rattle.htss_defs.proofs.Pairs.{linked-more}
use Rattle.ring_bonds.proofs.query.graph_of.Goals as goal

pub loop-bond-preserved : goal.loop-bond-preserved
loop-bond-preserved c =
    let within : c.loop-bond.bond-index < length c.args.bonds.now = search rules in
    let valid : AreEnds c.args.atoms c.ends.result = c.are_ends.ensures.0 (search rules) in
    record {
      linked = linked-more query_bond_ends c.args.bonds.now c.loop-bond.bond-index _ _ _ _ _ c.loop-bond.invariant.linked c.ends-in-loop-bond.ensures within c.add.ensures;
      ends = All-more (λ b. AreEnds c.args.atoms (query_bond_ends b)) c.args.bonds.now c.loop-bond.bond-index _ within c.loop-bond.invariant.ends
          (subst (λ (e : Ends). AreEnds c.args.atoms e) c.ends.ensures valid);
    }
