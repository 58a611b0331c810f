use Rattle.std.proofs.Common.{◌<◌, length, arith, rules}
use Rattle.htss_defs.specs.Graph.{AreEnds}
use Rattle.htss_defs.proofs.Chains.{IsGraph-add, AreChains-add}
use Rattle.htss_defs.proofs.adjacency.Adjacency.add.Goals as goal

pub invariant_of-self : goal.invariant_of-self
invariant_of-self c =
    let ends : AreEnds c.self.inside.atoms c.args.ends = search rules in
    let room : length c.self.inside.ends.items < 999 = search rules in
    let valid = c.self.invariant in
    record {
      graph = IsGraph-add _ _ _ _ valid.graph ends room c.push.ensures.items;
      chains = AreChains-add _ c.self.inside.ends.items _ _ _ _ _ valid.chains ends c.push.ensures.items (search rules)
          (omega (arith, c.self.told.0, valid.graph.atoms)) (omega (arith, c.self.told.1, c.len-end.ensures.value));
    }
