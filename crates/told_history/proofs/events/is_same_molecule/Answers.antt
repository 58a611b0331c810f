use Rattle.std.proofs.Common.{◌≡◌, List, ◌∙◌, ap, sym}
use Rattle.htss_defs.specs.declared.mol.Atom.{Atom}
use Rattle.htss_defs.specs.declared.mol.Bond.{Bond}
use Rattle.htss_defs.specs.Molecule.{Molecule}
use Rattle.told_history.proofs.events.is_same_molecule.Goals as goal

same_parts : (one other : Molecule) → one.atoms ≡ other.atoms → one.bonds ≡ other.bonds → one ≡ other
same_parts one other atoms bonds = ap (λ (l : List Atom). record { atoms = l; bonds = one.bonds }) atoms ∙ ap (λ (l : List Bond). record { atoms = other.atoms; bonds = l }) bonds

pub returns-then-not-are_same_atoms-clause-other : goal.returns-then-not-are_same_atoms-clause-other
returns-then-not-are_same_atoms-clause-other c = λ no same.
    c.are_same_atoms.ensures.other c.if-not-are_same_atoms.true (c.atoms.ensures.items ∙ ap (λ (m : Molecule). m.atoms) same ∙ sym c.atoms-2.ensures.items)

pub returns-clause-is : goal.returns-clause-is
returns-clause-is c = λ yes.
    same_parts c.args.one.now c.args.other.now
    (sym c.atoms.ensures.items ∙ c.are_same_atoms.ensures.is c.if-not-are_same_atoms.false ∙ c.atoms-2.ensures.items)
    (sym c.bonds.ensures.items ∙ c.are_same_bonds.ensures.is yes ∙ c.bonds-2.ensures.items)

pub returns-clause-other : goal.returns-clause-other
returns-clause-other c = λ no same.
    c.are_same_bonds.ensures.other no (c.bonds.ensures.items ∙ ap (λ (m : Molecule). m.bonds) same ∙ sym c.bonds-2.ensures.items)
