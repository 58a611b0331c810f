use Rattle.std.proofs.Common.{◌≡◌, ◌<◌, List, length, get_or, set, ap, subst, sym, ◌∙◌, arith}
use Rattle.std.proofs.lemmas.List.{get_or_default}
use Rattle.htss_defs.specs.declared.mol.Bond.{Bond}
use Rattle.htss_defs.specs.Molecule.{Molecule, IsMolecule}
use Rattle.htss_defs.specs.Marked.{no_bond}
use Rattle.htss_defs.proofs.Flags.{IsMolecule-with_ring}
use Rattle.htss_defs.proofs.mol.Mol.set_ring.Goals as goal

pub invariant_of-self : goal.invariant_of-self
invariant_of-self c =
    let bonds : List Bond = c.self.inside.bonds.items in
    let within : c.args.bond < length bonds = omega (arith, ap (λ (m : Molecule). length m.bonds) c.self.view_is) in
    let is : c.index_mut.result.now ≡ get_or bonds c.args.bond no_bond = c.index_mut.ensures.value ∙ get_or_default bonds c.args.bond _ no_bond within in
    subst (λ (b : Bond). IsMolecule (record { atoms = c.self.inside.atoms.items; bonds = set bonds c.args.bond (record b { ring = c.args.ring }) })) (sym is)
    (IsMolecule-with_ring (record { atoms = c.self.inside.atoms.items; bonds = bonds }) c.args.bond c.args.ring c.self.invariant within)
