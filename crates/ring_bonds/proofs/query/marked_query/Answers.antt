use Rattle.std.proofs.Common.{◌≡◌, ℕ, length, map, ap, sym, subst, ◌∙◌, List}
use Rattle.htss_defs.specs.declared.query.QueryBond.{QueryBond}
use Rattle.htss_defs.specs.QueryGraph.{query_bond_ends}
use Rattle.ring_bonds.specs.QueryFlags.{AreSet}
use Rattle.ring_bonds.proofs.QueryBonds.{IsMarkedQuery-written, IsQuery-written}
use Rattle.ring_bonds.proofs.query.marked_query.Goals as goal

pub new-requires : goal.new-requires
new-requires c =
    let set : AreSet c.args.bonds.items c.set_flags.new.bonds c.ring_flags.result (length c.args.bonds.items) =
    subst (λ (bs : List QueryBond). AreSet bs c.set_flags.new.bonds c.ring_flags.result (length bs)) c.deref_mut.ensures.value c.set_flags.ensures in
    let size : length c.args.bonds.items ≡ c.args.bonds.len = sym (ap length c.deref_mut.ensures.value) ∙ c.deref_mut.ensures.len in
    let linked : c.in_ok-graph.graph ≡ record { atoms = length c.args.atoms.items; bonds = map query_bond_ends c.args.bonds.items } =
    c.in_ok-graph.ensures.some ∙ ap (λ (n : ℕ). record { atoms = n; bonds = map query_bond_ends c.deref.result.now }) (c.len.ensures ∙ c.args.atoms.ok.0)
    ∙ ap (λ (bs : List QueryBond). record { atoms = length c.args.atoms.items; bonds = map query_bond_ends bs }) c.deref.ensures.value in
    record { marked = IsMarkedQuery-written c.args.atoms.items c.args.bonds.items _ _ c.in_ok-graph.graph c.ring_flags.result size set linked c.ring_flags.ensures }

pub returns-clause-some : goal.returns-clause-some
returns-clause-some c =
    let set : AreSet c.args.bonds.items c.set_flags.new.bonds c.ring_flags.result (length c.args.bonds.items) =
    subst (λ (bs : List QueryBond). AreSet bs c.set_flags.new.bonds c.ring_flags.result (length bs)) c.deref_mut.ensures.value c.set_flags.ensures in
    let size : length c.args.bonds.items ≡ c.args.bonds.len = sym (ap length c.deref_mut.ensures.value) ∙ c.deref_mut.ensures.len in
    let same = IsQuery-written c.args.atoms.items c.args.bonds.items c.set_flags.new.bonds c.args.bonds.len c.ring_flags.result size set in
    (λ some. same.0 (c.new.ensures.valid.0 some), λ valid. c.new.ensures.valid.1 (same.1 valid))
